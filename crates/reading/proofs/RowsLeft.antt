-- The rows of a file, walked by index, and the points of a curve: what is left of them from one on.
use Prim.Native.Nat.{ℕ, zero, suc, ◌+◌, ◌-◌, ◌*◌, ◌≤◌, ◌<◌}
use mathlib.Core.Path.{◌≡◌, refl, sym, ap, ap₂, ◌∙◌}
use mathlib.Core.List.{List, [], ◌∷◌, map}
use mathlib.Core.Bool.{Bool, false, ◌||◌, ◌&&◌}
use native.Mathlib.Omega.{arith}
use borrow.Author.Tests.{lt-ltb}
use lib.ListN.{length, drop, length-map}
use lib.Dec.{ltb}
use lib.Signed.{lt_z}
use Rattle.words.specs.Lists.{any}
use Rattle.words.proofs.Words.{length_entries}
use Rattle.reading.specs.Interval.{point_bytes, file_layout, Point, RowWords, Row, header_of, point_of, point_at, row_words, row_words_at, row_words_of, points_in, row_of, rows_of, point_outside, falls_after, falls, point_refused}
use Rattle.reading.proofs.Bools.{or_apart, or_then}
use Rattle.reading.proofs.Tables.{entries_from, table_start, table_turn, table_turn_at, table_end}

-- one point falls from none
falls_short : (ps : List Point) → length ps ≤ 1 → falls ps ≡ false
unfolding falls falls_after
falls_short [] h = refl
falls_short (p ∷ []) h = refl
falls_short (p ∷ q ∷ ps) h = absurd (omega arith)

-- a curve of n points
module _ (n : ℕ) (c : List ℕ) where
  -- the points from j on
  unfoldable pub points_left : ℕ → List Point
  points_left = entries_from point_bytes point_of n c

  -- before any point is read, all are left
  pub points_start : points_in n c ≡ points_left 0
  unfolding points_in points_left
  points_start = table_start point_bytes point_of n c

  -- below the count, the points from j on are point j and those from j + 1 on
  pub points_turn : (j : ℕ) → j < n → points_left j ≡ point_at c j ∷ points_left (j + 1)
  unfolding points_left point_at
  points_turn = table_turn point_bytes point_of n c

  -- from the count on, no point is left
  pub points_end : (j : ℕ) → n ≤ j → points_left j ≡ []
  unfolding points_left
  points_end = table_end point_bytes point_of n c

  -- so many are left
  length_left : (j : ℕ) → length (points_left j) ≡ n - j
  unfolding points_left
  length_left j = length_entries point_bytes point_of (n - j) (drop (point_bytes * j) c)

  -- whether one of them is out of range or falls, the first of them from the one before it
  unfoldable pub curve_left : ℕ → Bool
  curve_left j = any point_outside (points_left j) || falls (points_left (j - 1))

  -- whether any point is out of range or falls is what is left to tell from point 0 on
  pub curve_start : (any point_outside (points_in n c) || falls (points_in n c)) ≡ curve_left 0
  unfolding curve_left
  curve_start = ap (λ ps. any point_outside ps || falls ps) points_start

  -- a fall from point i on is one to the next point, or one from there on
  falls_next : (i : ℕ) → suc i < n
      → falls (points_left i) ≡ (falls (point_at c i ∷ point_at c (suc i) ∷ []) || falls (points_left (suc i)))
  unfolding falls falls_after
  falls_next i h =
      let next : i + 1 ≡ suc i = omega arith in
      let p = point_at c i in
      let q = point_at c (suc i) in
      let rest = points_left (suc i + 1) in
      let later : points_left (suc i) ≡ q ∷ rest = points_turn (suc i) h in
      let here = points_turn i (omega arith) in
      let both : points_left i ≡ p ∷ q ∷ rest = here ∙ ap (λ ps. p ∷ ps) (ap points_left next ∙ later) in
      ap falls both
      ∙ or_then (lt_z q.price p.price || ltb q.kw p.kw) (falls_after q rest)
      ∙ ap (λ ps. falls (p ∷ q ∷ []) || falls ps) (sym later)

  -- a fall from point j - 1 on is one to point j, which point 0 cannot have, or one from point j on
  falls_turn : (j : ℕ) → j < n
      → falls (points_left (j - 1)) ≡ ((ltb 0 j && falls (point_at c (j - 1) ∷ point_at c j ∷ [])) || falls (points_left j))
  falls_turn zero h = refl
  falls_turn (suc i) h =
      let here : suc i - 1 ≡ i = omega arith in
      rw (here, lt-ltb 0 (suc i) (omega arith)) (falls_next i h)

  -- what is left from point j on is whether point j is refused, or what is left from j + 1 on
  pub curve_turn : (j : ℕ) → j < n → curve_left j ≡ (point_refused c j || curve_left (j + 1))
  unfolding curve_left any
  curve_turn j h =
      let back : j + 1 - 1 ≡ j = omega arith in
      let later = any point_outside (points_left (j + 1)) in
      let fall = ltb 0 j && falls (point_at c (j - 1) ∷ point_at c j ∷ []) in
      ap₂ ◌||◌ (ap (any point_outside) (points_turn j h)) (falls_turn j h)
      ∙ or_apart (point_outside (point_at c j)) later fall (falls (points_left j))
      ∙ ap (λ k. point_refused c j || (later || falls (points_left k))) (sym back)

  -- from the count on, no point is left to be out of range or to fall
  pub curve_end : (j : ℕ) → n ≤ j → curve_left j ≡ false
  unfolding curve_left any falls falls_after
  curve_end j h =
      let one = falls_short (points_left (j - 1)) (omega (arith, length_left (j - 1))) in
      ap₂ (λ ps t. any point_outside ps || t) (points_end j h) one

-- the rows of a file f
module _ (f : List ℕ) where
  -- where the table of rows begins
  abbrev table : List ℕ
  table = drop (header_of f).rows_offset f

  -- the words of the row at the front of a part of the file
  abbrev row_front : List ℕ → RowWords
  row_front = row_words (header_of f).format

  -- from one row to the next
  abbrev stride : ℕ
  stride = (file_layout f).row_bytes

  -- the words of the rows from i on
  unfoldable pub words_left : ℕ → List RowWords
  words_left = entries_from stride row_front (header_of f).row_count table

  -- before any row is read, the words of all are left
  pub words_start : row_words_of f ≡ words_left 0
  unfolding row_words_of words_left
  words_start = table_start stride row_front (header_of f).row_count table

  -- below the count, those from i on are row i's and those from i + 1 on
  pub words_turn : (i : ℕ) → i < (header_of f).row_count → words_left i ≡ row_words_at f i ∷ words_left (i + 1)
  unfolding words_left row_words_at
  words_turn = table_turn_at stride row_front (header_of f).row_count (header_of f).rows_offset f

  -- from the count on, none are left
  pub words_end : (i : ℕ) → (header_of f).row_count ≤ i → words_left i ≡ []
  unfolding words_left
  words_end = table_end stride row_front (header_of f).row_count table

  -- the rows from i on
  unfoldable pub rows_left : ℕ → List Row
  rows_left i = map (row_of f) (words_left i)

  -- each of its rows is made of the words of one
  pub rows_of_words : rows_of f ≡ map (row_of f) (row_words_of f)
  unfolding rows_of
  rows_of_words = refl

  -- before any row is read, all rows of the file are left
  pub rows_start : rows_of f ≡ rows_left 0
  unfolding rows_left
  rows_start = rows_of_words ∙ ap (map (row_of f)) words_start

  -- below the count, the rows from i on are row i and those from i + 1 on
  pub rows_turn : (i : ℕ) → i < (header_of f).row_count → rows_left i ≡ row_of f (row_words_at f i) ∷ rows_left (i + 1)
  unfolding rows_left
  rows_turn i h = ap (map (row_of f)) (words_turn i h)

  -- from the count on, no row is left
  pub rows_end : (i : ℕ) → (header_of f).row_count ≤ i → rows_left i ≡ []
  unfolding rows_left
  rows_end i h = ap (map (row_of f)) (words_end i h)

  -- it has as many rows as word 6 of its header says
  pub length_rows : length (rows_of f) ≡ (header_of f).row_count
  unfolding row_words_of
  length_rows =
      ap length rows_of_words
      ∙ length-map (row_words_of f) (row_of f)
      ∙ length_entries stride row_front (header_of f).row_count table
