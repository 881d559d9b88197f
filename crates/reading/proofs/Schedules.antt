-- The schedules that a row names, in both formats: how many, which one, and those from one on.
use Prim.Native.Nat.{ℕ, zero, suc, min, ◌+◌, ◌*◌, ◌≤◌, ◌<◌}
use mathlib.Core.Path.{◌≡◌, refl, sym, ap, ◌∙◌}
use mathlib.Core.List.{List, [], ◌∷◌}
use native.Mathlib.Numerals.{add-one}
use native.Mathlib.Omega.{arith}
use mathlib.Core.Bool.{false}
use borrow.Author.Tests.{eq-eqb, ne_eqb, lt-ltb, ltb-false}
use lib.ListN.{length, drop, get_or, drop_of_length-le}
use lib.Seq.{drop-cons, drop-drop}
use Rattle.words.specs.Words.{entries}
use Rattle.words.proofs.Words.{length_entries, entry_at}
use Rattle.words.proofs.Tests.{facts}
use Rattle.reading.specs.Interval.{curves_format, market, schedule_bytes, Header, RowWords, ScheduleWords, header_of, schedule_words, table_schedules, as_schedule, schedules_named, no_schedule, schedule_at, schedules_beyond, curve_misplaced}
use Rattle.reading.proofs.Layouts.{in_schedules, in_either}

-- the row of these words in a file f
module _ (f : List ℕ) (w : RowWords) where
  -- the schedule that its points are in format 1
  abbrev pub own_schedule : ScheduleWords
  own_schedule = record { kind = market; first = w.first; count = w.count }

  -- in format 1 it names none without points
  pub named_none : (header_of f).format ≡ curves_format → w.count ≡ 0 → schedules_named f w ≡ []
  unfolding schedules_named as_schedule
  named_none same none = rw (eq-eqb (header_of f).format curves_format same, eq-eqb w.count 0 none)

  -- and with points that one
  pub named_one : (header_of f).format ≡ curves_format → 0 < w.count → schedules_named f w ≡ own_schedule ∷ []
  unfolding schedules_named as_schedule
  named_one same some = rw (eq-eqb (header_of f).format curves_format same, ne_eqb w.count 0 (λ e. omega arith))

  -- so it names one if it has any points
  pub length_own : (header_of f).format ≡ curves_format → length (schedules_named f w) ≡ min w.count 1
  length_own same = by w.count refl
    where
      by : (n : ℕ) → w.count ≡ n → length (schedules_named f w) ≡ min n 1
      by zero e = ap length (named_none same e)
      by (suc n) e = ap length (named_one same (omega (arith, e))) ∙ omega arith

  -- in format 2 it names those of the table
  pub named_table : ((header_of f).format ≡ curves_format → ⊥)
      → schedules_named f w ≡ table_schedules f w.first w.count
  unfolding schedules_named
  named_table = in_schedules (as_schedule w) (table_schedules f w.first w.count)

  -- as many as it says
  table_long : length (table_schedules f w.first w.count) ≡ w.count
  unfolding table_schedules
  table_long =
      let at = (header_of f).schedules_offset + schedule_bytes * w.first in
      length_entries schedule_bytes schedule_words w.count (drop at f)

  -- so many it names
  pub length_table : ((header_of f).format ≡ curves_format → ⊥) → length (schedules_named f w) ≡ w.count
  length_table other = ap length (named_table other) ∙ table_long

  -- in format 1 schedule k, if there is one, is that of its points
  pub at_curves : (header_of f).format ≡ curves_format → (k : ℕ) → k < length (schedules_named f w)
      → schedule_at f w k ≡ own_schedule
  unfolding schedule_at
  at_curves same k below = by w.count refl
    where
      by : (n : ℕ) → w.count ≡ n → get_or (schedules_named f w) k no_schedule ≡ own_schedule
      by zero e = absurd (omega (arith, ap length (named_none same e)))
      by (suc n) e =
          let one = named_one same (omega (arith, e)) in
          let first : k ≡ 0 = omega (arith, ap length one) in
          rw first (ap (λ l. get_or l 0 no_schedule) one)

  -- in either format it names none where its number is 0
  pub named_nothing : w.count ≡ 0 → schedules_named f w ≡ []
  unfolding schedules_named as_schedule table_schedules entries
  named_nothing none = rw none (in_either (λ l. l ≡ []) refl refl (header_of f).format)

  -- and some where it is above 0
  pub named_something : 0 < w.count → 0 < length (schedules_named f w)
  unfolding schedules_named as_schedule
  named_something some =
      let own : 0 < length (as_schedule w) = rw (ne_eqb w.count 0 (λ e. omega arith)) (omega arith) in
      let listed : 0 < length (table_schedules f w.first w.count) = omega (arith, table_long) in
      in_either (λ (l : List ScheduleWords). 0 < length l) own listed (header_of f).format

  -- in format 2 schedule k stands in the table so many after the first
  pub at_table : ((header_of f).format ≡ curves_format → ⊥) → (k : ℕ) → k < length (schedules_named f w)
      → schedule_at f w k ≡ schedule_words (drop ((header_of f).schedules_offset + schedule_bytes * (w.first + k)) f)
  unfolding schedule_at table_schedules
  at_table other k below =
      let at = (header_of f).schedules_offset + schedule_bytes * w.first in
      let place : at + schedule_bytes * k ≡ (header_of f).schedules_offset + schedule_bytes * (w.first + k) = omega arith in
      ap (λ l. get_or l k no_schedule) (named_table other)
      ∙ entry_at schedule_bytes schedule_words w.count (drop at f) k no_schedule (omega (arith, length_table other))
      ∙ ap schedule_words (drop-drop (schedule_bytes * k) at f ∙ ap (λ p. drop p f) place)

  -- below their number, those from k on are schedule k and those from k + 1 on
  pub next_named : (k : ℕ) → k < length (schedules_named f w)
      → drop k (schedules_named f w) ≡ schedule_at f w k ∷ drop (k + 1) (schedules_named f w)
  unfolding schedule_at
  next_named k below =
      drop-cons (schedules_named f w) k no_schedule below
      ∙ ap (λ j. schedule_at f w k ∷ drop j (schedules_named f w)) (sym (add-one k))

  -- from their number on, none is left
  pub none_left : (k : ℕ) → length (schedules_named f w) ≤ k → drop k (schedules_named f w) ≡ []
  none_left k beyond = drop_of_length-le (schedules_named f w) {i = k} beyond

-- schedules that do not reach beyond the table end within it, if the rows name schedules and this one names any
pub schedules_end : (h : Header) (w : RowWords) → (h.format ≡ curves_format → ⊥) → schedules_beyond h w ≡ false
    → 0 < w.count → w.first + w.count ≤ h.schedule_count
unfolding schedules_beyond
schedules_end h w other e some =
    ltb-false h.schedule_count (w.first + w.count)
    (rw (ne_eqb h.format curves_format other, lt-ltb 0 w.count some) at e)

-- points that are in place end within the file's points
pub points_within : (points : ℕ) (s : ScheduleWords) → curve_misplaced points s ≡ false → s.first + s.count ≤ points
unfolding curve_misplaced
points_within points s e = search facts
