-- What each test that the code makes of a row's schedules says of ground 18.
use Prim.Native.Nat.{ℕ, zero, suc, ◌+◌, ◌*◌, ◌≤◌, ◌<◌}
use mathlib.Core.Path.{◌≡◌, refl, sym, ap, ◌∙◌}
use mathlib.Core.List.{List, [], ◌∷◌}
use mathlib.Core.Bool.{Bool, true, false, ◌||◌, ◌&&◌, or-true, or-false, and-false}
use native.Mathlib.Omega.{arith}
use borrow.Author.Tests.{lt-ltb, le-leb, leb-true, eq-eqb}
use lib.ListN.{drop}
use lib.Dec.{ltb, leb}
use Rattle.words.specs.Lists.{any}
use Rattle.words.specs.Words.{entries}
use Rattle.words.specs.Grounds.{outside}
use Rattle.words.proofs.Lists.{any_turn}
use Rattle.reading.specs.Interval.{curves_format, most_row_schedules, schedule_bytes, file_layout, RowWords, ScheduleWords, header_of, row_words, row_words_of, schedule_words, table_schedules, schedules_beyond, kind_outside, schedules_outside}
use Rattle.reading.specs.Values.{header_in, HeaderRead}
use Rattle.reading.specs.declared.header.Header.{Header as HeaderValue}
use Rattle.reading.proofs.Facts.{other_said, schedule_count_lem}
use Rattle.reading.proofs.Layouts.{in_curves, in_schedules}
use Rattle.reading.proofs.Tables.{entries_from, table_start, table_turn_at, table_end, no_entry}
use Rattle.reading.proofs.Schedules.{named_none, named_one, named_table, length_table}

-- so many schedules of a file's table, from one of them on
module _ (f : List ℕ) (first count : ℕ) where
  -- where they begin
  abbrev place : ℕ
  place = (header_of f).schedules_offset + schedule_bytes * first

  -- those from k on
  unfoldable pub table_left : ℕ → List ScheduleWords
  table_left = entries_from schedule_bytes schedule_words count (drop place f)

  -- before any is read, all are left
  pub schedules_start : table_schedules f first count ≡ table_left 0
  unfolding table_schedules table_left
  schedules_start = table_start schedule_bytes schedule_words count (drop place f)

  -- below the count, those from k on are the one that is read there and those from k + 1 on
  pub schedules_turn : (k : ℕ) {s : ScheduleWords} → k < count
      → s ≡ schedule_words (drop ((header_of f).schedules_offset + schedule_bytes * (first + k)) f)
      → table_left k ≡ s ∷ table_left (k + 1)
  unfolding table_left
  schedules_turn k below is =
      let here : place + schedule_bytes * k ≡ (header_of f).schedules_offset + schedule_bytes * (first + k) = omega arith in
      table_turn_at schedule_bytes schedule_words count place f k below
      ∙ ap (λ s. s ∷ table_left (k + 1)) (ap (λ p. schedule_words (drop p f)) here ∙ sym is)

  -- from the count on, none is left
  pub schedules_end : (k : ℕ) → count ≤ k → table_left k ≡ []
  unfolding table_left
  schedules_end = table_end schedule_bytes schedule_words count (drop place f)

-- whether one of so many schedules, from one on, is of no kind is told by the next, read where a header says,
-- or by those after it
pub kinds_turn : {f : List ℕ} {h : HeaderValue} → HeaderRead f h → (first count k : ℕ) {s : ScheduleWords}
    → s ≡ schedule_words (drop (h.schedules_at + schedule_bytes * (first + k)) f)
    → any kind_outside (table_schedules f first count) ≡ any kind_outside (table_left f first count k) → k < count
    → (told : Bool) → kind_outside s ≡ told
    → any kind_outside (table_schedules f first count) ≡ (told || any kind_outside (table_left f first count (k + 1)))
unfolding header_in
kinds_turn {f} r first count k is left below told e =
    let here = is ∙ ap (λ h. schedule_words (drop (h.schedules_offset + schedule_bytes * (first + k)) f)) r.says in
    any_turn kind_outside told left (schedules_turn f first count k below here) e

-- ground 18 in a row's own words, of a file whose header says that rows name schedules: the one dispatched on where it
-- has none; else their number, the one dispatched on, their place, and their kinds
module _ {f : List ℕ} {h : HeaderValue} (r : HeaderRead f h) (naming : h.format ≡ curves_format → ⊥)
    (w : RowWords) where
  -- the ground, word by word
  outside_is : schedules_outside f w
      ≡ ((ltb 0 w.count && ltb h.schedules (w.first + w.count))
      || ltb most_row_schedules w.count
      || any kind_outside (table_schedules f w.first w.count)
      || (ltb 0 w.dispatched && leb w.count w.dispatched))
  unfolding schedules_outside schedules_beyond
  outside_is =
      let two = other_said r naming in
      let place = ltb 0 w.count && ltb (header_of f).schedule_count (w.first + w.count) in
      rw (schedule_count_lem r, length_table f w two, named_table f w two, in_schedules false place two)

  -- a row without schedules
  pub none_dispatched : w.count ≡ 0 → schedules_outside f w ≡ ltb 0 w.dispatched
  unfolding table_schedules entries any
  none_dispatched none = outside_is ∙ rw (none, le-leb 0 w.dispatched (omega arith)) (by (ltb 0 w.dispatched))
    where
      by : (t : Bool) → (t && true) ≡ t
      by true = refl
      by false = refl

  -- a row with schedules
  pub some_named : 0 < w.count → schedules_outside f w
      ≡ (ltb most_row_schedules w.count || leb w.count w.dispatched || ltb h.schedules (w.first + w.count)
      || any kind_outside (table_schedules f w.first w.count))
  some_named some =
      outside_is ∙ rw (lt-ltb 0 w.count some)
      (by (ltb h.schedules (w.first + w.count)) (ltb most_row_schedules w.count)
      (any kind_outside (table_schedules f w.first w.count)) (leb w.count w.dispatched) refl)
    where
      by : (beyond many none above : Bool) → leb w.count w.dispatched ≡ above
          → (((beyond || many) || none) || (ltb 0 w.dispatched && above)) ≡ (((many || above) || beyond) || none)
      by beyond many none true e =
          let late : 0 < w.dispatched = omega (arith, leb-true w.count w.dispatched e) in
          rw (lt-ltb 0 w.dispatched late, or-true ((beyond || many) || none), or-true many)
      by true true none false e = refl
      by true false none false e = refl
      by false true none false e = refl
      by false false none false e = rw (and-false (ltb 0 w.dispatched)) (or-false none)

-- in format 1 ground 18 refuses no row of a file
module _ (f : List ℕ) (one : (header_of f).format ≡ curves_format) where
  -- the row of these words, which was dispatched on the only schedule
  curves_pass : (w : RowWords) → w.dispatched ≡ 0 → schedules_outside f w ≡ false
  unfolding schedules_outside schedules_beyond kind_outside outside any
  curves_pass w first = by w.count refl
    where
      by : (n : ℕ) → w.count ≡ n → schedules_outside f w ≡ false
      by zero e = rw (eq-eqb (header_of f).format curves_format one, named_none f w one e, first)
      by (suc n) e = rw (eq-eqb (header_of f).format curves_format one, named_one f w one (omega (arith, e)), first)

  -- so it refuses none
  pub curves_none : any (schedules_outside f) (row_words_of f) ≡ false
  unfolding row_words_of row_words
  curves_none =
      no_entry (file_layout f).row_bytes (row_words (header_of f).format) (schedules_outside f)
      (λ b. curves_pass (row_words (header_of f).format b) (in_curves 0 _ one))
      (header_of f).row_count (drop (header_of f).rows_offset f)
