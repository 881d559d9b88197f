-- The laws of a plant's row in a file: where it stands, and its line on the page.
use Prim.Native.Nat.{ℕ, suc, ◌+◌, ◌*◌, ◌≤◌, ◌<◌}
use mathlib.Core.Path.{◌≡◌, refl, sym, ap, ap₂, ◌∙◌}
use mathlib.Core.List.{List, [], ◌∷◌, map, Memᴰ}
use mathlib.Core.Bool.{Bool, true, false, cond, ◌||◌}
use native.Mathlib.Omega.{arith}
use lib.ListN.{length, drop, length-map}
use lib.Seq.{drop-drop}
use lib.Dec.{eqb}
use borrow.Author.Tests.{eqb-true, eq-eqb, ne_eqb, le-ltb}
use Rattle.words.specs.Lists.{any, rises}
use Rattle.words.specs.Words.{word64}
use Rattle.words.proofs.Ints.{never}
use Rattle.words.proofs.Lists.{rises_rest, not_among}
use Rattle.reading.specs.Interval.{RowWords, Row, row_words_at, row_with, row_of, rows_of}
use Rattle.reading.specs.Values.{HeaderRead}
use Rattle.reading.specs.declared.header.Header.{Header as HeaderValue}
use Rattle.reading.proofs.RowsLeft.{rows_left, rows_start}
use Rattle.reading.proofs.Facts.{next_row, no_row}
use Rattle.ledger.specs.Values.{before}
use Rattle.ledger.proofs.WalkLaws.{found_is}
use Rattle.settling.specs.Settling.{result_row_bytes}
use Rattle.year.specs.Year.{GivenRow, given_from}
use Rattle.listing.specs.Npalist.{row_line, row_lines}
use Rattle.page.specs.Page.{on_page, chosen}

-- the ids of rows
abbrev pub row_ids : List Row → List ℕ
row_ids rs = map (λ r. r.id) rs

-- looking for an id among the rows of a file f
module _ (f : List ℕ) (id : ℕ) where
  -- where it stands among the rows from i on
  abbrev pub place_from : ℕ → ℕ
  place_from i = i + before id (row_ids (rows_left f i))

  -- looking begins at the first row
  pub place_start : before id (row_ids (rows_of f)) ≡ place_from 0
  place_start = ap (λ rs. before id (row_ids rs)) (rows_start f) ∙ omega arith

  module _ {h : HeaderValue} (read : HeaderRead f h) (i : ℕ) where
    -- a row that has the id is the place
    pub place_here : {w : RowWords} → i < h.rows → w ≡ row_words_at f i → w.id ≡ id → place_from i ≡ i
    unfolding before row_of row_with
    place_here {w} row is own =
        let none : before id (row_ids (rows_left f i)) ≡ 0 = ap (λ rs. before id (row_ids rs)) (next_row read i row is)
        ∙ rw (eq-eqb w.id id own) in
        omega (arith, none)

    -- after another the next row is looked at
    pub place_next : {w : RowWords} → i < h.rows → w ≡ row_words_at f i → (w.id ≡ id → ⊥)
        → place_from i ≡ place_from (i + 1)
    unfolding before row_of row_with
    place_next {w} row is other =
        let more : before id (row_ids (rows_left f i)) ≡ suc (before id (row_ids (rows_left f (i + 1)))) =
        ap (λ rs. before id (row_ids rs)) (next_row read i row is) ∙ rw (ne_eqb w.id id other)
        in
        omega (arith, more)

    -- and none is left after the last
    pub place_end : h.rows ≤ i → place_from i ≡ i
    unfolding before
    place_end past =
        let none : before id (row_ids (rows_left f i)) ≡ 0 = ap (λ rs. before id (row_ids rs)) (no_row read i past) in
        omega (arith, none)

-- rows without the plant's id have no line on its page
none_chosen : (interval id : ℕ) (rs : List Row) (b : List ℕ) → any (λ x. eqb x id) (row_ids rs) ≡ false
    → chosen id (row_lines interval rs b) ≡ []
unfolding chosen on_page row_lines row_line any
none_chosen interval id [] b none = refl
none_chosen interval id (r ∷ rs) b none = by (eqb r.id id) none (none_chosen interval id rs (drop result_row_bytes b))
  where
    by : (t : Bool) → (t || any (λ x. eqb x id) (row_ids rs)) ≡ false
        → (any (λ x. eqb x id) (row_ids rs) ≡ false → chosen id (row_lines interval rs (drop result_row_bytes b)) ≡ [])
        → cond t (row_line interval r.id b ∷ chosen id (row_lines interval rs (drop result_row_bytes b)))
        (chosen id (row_lines interval rs (drop result_row_bytes b))) ≡ []
    by true none below = never (sym none)
    by false none below = below none

-- where the plant's id stands among no rows, they have no line on its page
pub no_line : (interval id : ℕ) (rs : List Row) (b : List ℕ) → length rs ≤ before id (row_ids rs)
    → chosen id (row_lines interval rs b) ≡ []
no_line interval id rs b past =
    none_chosen interval id rs b
    (found_is id (row_ids rs) ∙ le-ltb (before id (row_ids rs)) (length (row_ids rs)) (omega (arith, length-map rs (λ r. r.id))))

-- where ids rise, the line of the row that has the plant's id is its only one
pub one_line : (interval id : ℕ) (rs : List Row) (b : List ℕ) → rises (row_ids rs) ≡ true
    → before id (row_ids rs) < length rs
    → chosen id (row_lines interval rs b) ≡ row_line interval id (drop (result_row_bytes * before id (row_ids rs)) b) ∷ []
unfolding chosen on_page row_lines row_line before rises
one_line interval id [] b up low = absurd (omega arith)
one_line interval id (r ∷ rs) b up low =
    by (eqb r.id id) refl low (one_line interval id rs (drop result_row_bytes b) (rises_rest r.id (row_ids rs) up))
  where
    by : (t : Bool) → eqb r.id id ≡ t → cond t 0 (suc (before id (row_ids rs))) < suc (length rs)
        → (before id (row_ids rs) < length rs → chosen id (row_lines interval rs (drop result_row_bytes b))
        ≡ row_line interval id (drop (result_row_bytes * before id (row_ids rs)) (drop result_row_bytes b)) ∷ [])
        → cond t (row_line interval r.id b ∷ chosen id (row_lines interval rs (drop result_row_bytes b)))
        (chosen id (row_lines interval rs (drop result_row_bytes b)))
        ≡ row_line interval id (drop (result_row_bytes * cond t 0 (suc (before id (row_ids rs)))) b) ∷ []
    by true e low below =
        let own = eqb-true r.id id e in
        let others = none_chosen interval id rs (drop result_row_bytes b)
        (not_among r.id id (row_ids rs) up (omega arith)) in
        ap₂ (λ i ls. row_line interval i b ∷ ls) own others
    by false e low below =
        let place : result_row_bytes + result_row_bytes * before id (row_ids rs) ≡ result_row_bytes * suc (before id (row_ids rs)) = omega arith in
        below (omega arith)
        ∙ ap (λ d. row_line interval id d ∷ [])
        (drop-drop (result_row_bytes * before id (row_ids rs)) result_row_bytes b
        ∙ ap (λ k. drop k b) place)

-- what the row that has the plant's id is given
pub one_given : (id : ℕ) (rs : List Row) (b : List ℕ) → before id (row_ids rs) < length rs
    → (g : GivenRow) × Memᴰ g (given_from rs b)
    × (g.shortfall ≡ word64 (drop (result_row_bytes * before id (row_ids rs)) b) 4)
    × (g.bonus ≡ word64 (drop (result_row_bytes * before id (row_ids rs)) b) 5)
unfolding given_from before
one_given id [] b low = absurd (omega arith)
one_given id (r ∷ rs) b low = by (eqb r.id id) low (one_given id rs (drop result_row_bytes b))
  where
    by : (t : Bool) → cond t 0 (suc (before id (row_ids rs))) < suc (length rs)
        → (before id (row_ids rs) < length rs → (g : GivenRow) × Memᴰ g (given_from rs (drop result_row_bytes b))
        × (g.shortfall ≡ word64 (drop (result_row_bytes * before id (row_ids rs)) (drop result_row_bytes b)) 4)
        × (g.bonus ≡ word64 (drop (result_row_bytes * before id (row_ids rs)) (drop result_row_bytes b)) 5))
        → (g : GivenRow) × Memᴰ g (given_from (r ∷ rs) b)
        × (g.shortfall ≡ word64 (drop (result_row_bytes * cond t 0 (suc (before id (row_ids rs)))) b) 4)
        × (g.bonus ≡ word64 (drop (result_row_bytes * cond t 0 (suc (before id (row_ids rs)))) b) 5)
    by true low below = (_, Memᴰ.head refl, refl, refl)
    by false low below =
        let (g, at, short, extra) = below (omega arith) in
        let place : result_row_bytes + result_row_bytes * before id (row_ids rs) ≡ result_row_bytes * suc (before id (row_ids rs)) = omega arith in
        let same = drop-drop (result_row_bytes * before id (row_ids rs)) result_row_bytes b ∙ ap (λ k. drop k b) place in
        (g, Memᴰ.tail at, short ∙ ap (λ d. word64 d 4) same, extra ∙ ap (λ d. word64 d 5) same)
