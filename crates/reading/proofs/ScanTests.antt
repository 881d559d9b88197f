-- What a walk over the rows of a file, their schedules and the points of these, which stops at the first fault,
-- tells of grounds 13, 18 and 14.
use Prim.Native.Nat.{ℕ, ◌+◌, ◌≤◌, ◌<◌}
use mathlib.Core.Path.{◌≡◌, refl, sym, ap, ◌∙◌}
use mathlib.Core.List.{List}
use mathlib.Core.Bool.{Bool, true, false, cond, ◌||◌, or_assoc}
use native.Mathlib.Omega.{arith}
use borrow.Author.Tests.{eqb-true}
use lib.ListN.{length, drop}
use lib.Dec.{eqb}
use Rattle.words.specs.Lists.{any}
use Rattle.words.specs.Grounds.{answered}
use Rattle.words.proofs.Lists.{any_turn, any_end}
use Rattle.reading.specs.Interval.{
  curves_format,
  by_format,
  RowWords,
  ScheduleWords,
  header_of,
  row_words_at,
  row_words_of,
  schedules_named,
  schedule_at,
  curve_part,
  points_in,
  curve_of,
  row_outside,
  schedules_outside,
  point_outside,
  falls,
  curve_misplaced,
  curve_outside,
  points_outside,
  row_grounds,
  point_refused,
}
use Rattle.reading.specs.Values.{HeaderRead}
use Rattle.reading.specs.declared.header.Header.{Header as HeaderValue}
use Rattle.reading.proofs.Facts.{format_said, row_count_lem, point_count_lem}
use Rattle.reading.proofs.RowsLeft.{
  curve_left,
  curve_start,
  curve_turn,
  curve_end,
  words_left,
  words_turn,
  words_end,
}
use Rattle.reading.proofs.Schedules.{next_named, none_left}
use Rattle.reading.proofs.ScheduleTests.{curves_none}

-- the rows of a file f
module _ (f : List ℕ) where
  -- whether a ground refuses a row
  abbrev pub some_row : (RowWords → Bool) → Bool
  some_row refusal = any refusal (row_words_of f)

  -- whether it refuses a row from i on
  abbrev pub row_from : (RowWords → Bool) → ℕ → Bool
  row_from refusal i = any refusal (words_left f i)

  -- ground 13 refuses a row, so the answer is 13
  pub row_fails : some_row row_outside ≡ true → answered (row_grounds f) ≡ 13
  unfolding answered row_grounds
  row_fails e = rw e

  -- no row fails ground 13
  module _ (in_range : some_row row_outside ≡ false) where
    -- ground 18 refuses a row, so the answer is 18
    pub schedules_fail : some_row (schedules_outside f) ≡ true → answered (row_grounds f) ≡ 18
    unfolding answered row_grounds
    schedules_fail e = rw (in_range, e)

    -- nor ground 18
    module _ (named : some_row (schedules_outside f) ≡ false) where
      -- where a row fails ground 14, the answer is 14
      pub points_fail : some_row (points_outside f) ≡ true → answered (row_grounds f) ≡ 14
      unfolding answered row_grounds
      points_fail e = rw (in_range, named, e)

      -- where none does, the answer is 0
      pub all_pass : some_row (points_outside f) ≡ false → answered (row_grounds f) ≡ 0
      unfolding answered row_grounds
      all_pass e = rw (in_range, named, e)

-- where the answer is none of 0, 13 and 18, it is 14
pub last_ground : (f : List ℕ) {ground : ℕ} → ground ≡ answered (row_grounds f)
    → (ground ≡ 0 → ⊥) → (ground ≡ 13 → ⊥) → (ground ≡ 18 → ⊥) → ◌≡◌ {A = ℕ} 14 (answered (row_grounds f))
unfolding answered row_grounds
last_ground f =
    by (some_row f row_outside) (some_row f (schedules_outside f)) (some_row f (points_outside f))
  where
    by : (rows schedules points : Bool) {ground : ℕ} → ground ≡ cond rows 13 (cond schedules 18 (cond points 14 0))
        → (ground ≡ 0 → ⊥) → (ground ≡ 13 → ⊥) → (ground ≡ 18 → ⊥)
        → ◌≡◌ {A = ℕ} 14 (cond rows 13 (cond schedules 18 (cond points 14 0)))
    by true schedules points is some not_13 not_18 = absurd (not_13 is)
    by false true points is some not_13 not_18 = absurd (not_18 is)
    by false false true is some not_13 not_18 = refl
    by false false false is some not_13 not_18 = absurd (some is)

-- the rows of a file whose header is read
module _ {f : List ℕ} {h : HeaderValue} (r : HeaderRead f h) where
  -- a ground depends on the rows from i on: on what the first of them tells, which has the words w,
  -- or on those after it
  pub row_turn : (refusal : RowWords → Bool) (i : ℕ) {w : RowWords} → w ≡ row_words_at f i
      → some_row f refusal ≡ row_from f refusal i → i < h.rows
      → {told : Bool} → refusal w ≡ told → some_row f refusal ≡ (told || row_from f refusal (i + 1))
  row_turn refusal i here left below {told} e =
      any_turn refusal told left (words_turn f i (omega (arith, row_count_lem r))) (ap refusal (sym here) ∙ e)

  -- no row is left for it to refuse
  pub rows_pass : (refusal : RowWords → Bool) (i : ℕ) → some_row f refusal ≡ row_from f refusal i → h.rows ≤ i
      → some_row f refusal ≡ false
  rows_pass refusal i left h = any_end refusal left (words_end f i (omega (arith, row_count_lem r)))

  -- ground 18 has looked at each row that it applies to
  pub schedules_pass : {naming : ℕ} (i : ℕ) → naming ≡ by_format h.format 0 h.rows
      → some_row f (schedules_outside f) ≡ row_from f (schedules_outside f) i → naming ≤ i
      → some_row f (schedules_outside f) ≡ false
  schedules_pass {naming} i = by (eqb h.format curves_format) refl
    where
      by : (t : Bool) → eqb h.format curves_format ≡ t → naming ≡ cond t 0 h.rows
          → some_row f (schedules_outside f) ≡ row_from f (schedules_outside f) i → naming ≤ i
          → some_row f (schedules_outside f) ≡ false
      by true e is left beyond = curves_none f (sym (format_said r) ∙ eqb-true h.format curves_format e)
      by false e is left beyond = rows_pass (schedules_outside f) i left (omega arith)

-- ground 14 of a file depends on the schedules from k on of the row of the words w, or on what comes after them
module _ (f : List ℕ) (w : RowWords) (k : ℕ) (rest : Bool)
    (left : some_row f (points_outside f) ≡ (any (curve_outside f) (drop k (schedules_named f w)) || rest)) where
  -- what is left behind schedule k
  abbrev behind : Bool
  behind = any (curve_outside f) (drop (k + 1) (schedules_named f w)) || rest

  -- no schedule is left, so what comes after them decides
  pub row_passes : length (schedules_named f w) ≤ k → some_row f (points_outside f) ≡ rest
  unfolding any
  row_passes h = left ∙ ap (λ l. any (curve_outside f) l || rest) (none_left f w k h)

  -- the next of them is s, in a file whose header is read
  module _ {h : HeaderValue} (r : HeaderRead f h) {s : ScheduleWords} (here : s ≡ schedule_at f w k)
      (k_th : k < length (schedules_named f w)) where
    -- ground 14 depends on the number and place of its points, on the points, and on what is behind
    schedule_turn : some_row f (points_outside f)
        ≡ ((curve_misplaced h.points s || curve_left s.count (curve_part f s) 0) || behind)
    unfolding curve_outside curve_of any
    schedule_turn =
        let place = curve_misplaced (header_of f).point_count s in
        let curve = points_in s.count (curve_part f s) in
        let later = any (curve_outside f) (drop (k + 1) (schedules_named f w)) in
        left
        ∙ ap (λ l. any (curve_outside f) l || rest) (next_named f w k k_th)
        ∙ ap (λ s. (curve_outside f s || later) || rest) (sym here)
        ∙ or_assoc (curve_outside f s) later rest
        ∙ ap (λ t. t || behind)
        (or_assoc place (any point_outside curve) (falls curve)
        ∙ ap (λ t. place || t) (curve_start s.count (curve_part f s))
        ∙ ap (λ n. curve_misplaced n s || curve_left s.count (curve_part f s) 0) (sym (point_count_lem r)))

    -- the number or place of its points is refused
    pub curve_fails : curve_misplaced h.points s ≡ true → some_row f (points_outside f) ≡ true
    curve_fails e = rw (schedule_turn, e)

    -- number and place of its points pass, so its n points, which are at c, and what is behind decide
    pub curve_begins : {n : ℕ} {c : List ℕ} → n ≡ s.count → c ≡ curve_part f s → curve_misplaced h.points s ≡ false
        → some_row f (points_outside f) ≡ (curve_left n c 0 || behind)
    curve_begins count is e = rw (schedule_turn, e, count, is)

-- and on n points from j on, which are at c, or on what comes after them
module _ (n : ℕ) (c : List ℕ) (j : ℕ) {all : Bool} (rest : Bool) (left : all ≡ (curve_left n c j || rest)) where
  -- the next of them is refused
  pub point_fails : j < n → point_refused c j ≡ true → all ≡ true
  point_fails h e = rw (left, curve_turn n c j h, e)

  -- it is not, so the points after it and what comes after them decide
  pub point_passes : j < n → point_refused c j ≡ false → all ≡ (curve_left n c (j + 1) || rest)
  point_passes h e = rw (left, curve_turn n c j h, e)

  -- no point is left, so what comes after them decides
  pub curve_passes : n ≤ j → all ≡ rest
  curve_passes h = rw (left, curve_end n c j h)
