-- What grounds 13, 18 and 14 leave known of a file, its rows, their schedules and points once they are ruled out.
use Prim.Native.Nat.{ℕ, zero, suc, ◌+◌, ◌*◌, ◌≤◌, ◌<◌}
use mathlib.Core.Path.{◌≡◌, refl, sym, ap, ◌∙◌}
use mathlib.Core.List.{List, [], ◌∷◌, map, Memᴰ}
use mathlib.Core.Bool.{Bool, false, ◌&&◌}
use native.Mathlib.Omega.{arith}
use lib.ListN.{length, drop, length-map, drop_of_length-le}
use lib.Seq.{drop-drop}
use lib.Dec.{ltb, leb}
use borrow.Author.Tests.{lt-ltb, leb-false}
use Rattle.words.specs.Lists.{any}
use Rattle.words.specs.Grounds.{answered, outside}
use Rattle.words.proofs.Tests.{facts}
use Rattle.words.proofs.Grounds.{none_applies}
use Rattle.words.proofs.Words.{length_entries}
use Rattle.reading.specs.Interval.{file_layout, point_bytes, most_row_schedules, RowWords, ScheduleWords, Schedule, Row, header_of, point_of, row_words, row_words_at, row_words_of, schedules_named, no_schedule, schedule_at, curve_part, points_in, curve_of, schedule_of, row_with, row_of, rows_of, row_outside, schedules_beyond, kind_outside, schedules_outside, curve_misplaced, curve_outside, points_outside, row_grounds}
use Rattle.reading.specs.Values.{header_in, HeaderRead, Sound, SoundCurve, Scanned}
use Rattle.reading.specs.declared.header.Header.{Header as HeaderValue}
use Rattle.reading.proofs.Tables.{none_entry, none_place}
use Rattle.reading.proofs.Bounds.{RowIn, row_in_lem, rows_in}
use Rattle.reading.proofs.Facts.{row_count_lem, point_count_lem}
use Rattle.reading.proofs.Schedules.{next_named}

-- where none of 13, 18 and 14 is answered, none refuses a row
pub scanned : (f : List ℕ) → answered (row_grounds f) ≡ 0 → Scanned f
unfolding any row_grounds
scanned f e =
    let none = none_applies (row_grounds f) refl e in
    record { in_range = search facts; schedules = search facts; points = search facts }

-- a test that no row's words pass, row i's do not
pub none_at : (f : List ℕ) (p : RowWords → Bool) (i : ℕ) → any p (row_words_of f) ≡ false → i < (header_of f).row_count
    → p (row_words_at f i) ≡ false
unfolding row_words_of row_words_at
none_at f p i e h =
    let format = (header_of f).format in
    let stride = (file_layout f).row_bytes in
    ap (λ l. p (row_words format l)) (sym (drop-drop (stride * i) (header_of f).rows_offset f))
    ∙ none_entry stride (row_words format) p (header_of f).row_count (drop (header_of f).rows_offset f) i e h

-- each row of a file of which none is refused is sound
pub sound : {f : List ℕ} → Scanned f → (i : ℕ) → i < (header_of f).row_count → Sound f (row_words_at f i)
sound {f} s i h = record {
  in_range = none_at f row_outside i s.in_range h;
  schedules = none_at f (schedules_outside f) i s.schedules h;
  points = none_at f (points_outside f) i s.points h;
}

-- and so are the words that are read of it
pub sound_row : {f : List ℕ} {h : HeaderValue} → Scanned f → HeaderRead f h
    → (i : ℕ) {w : RowWords} → i < h.rows → w ≡ row_words_at f i → Sound f w
sound_row s r i below e = rw e (sound s i (omega (arith, row_count_lem r)))

-- each of its rows keeps the bounds of its words
pub rows_sound : {f : List ℕ} → Scanned f → (r : Row) → Memᴰ r (rows_of f) → RowIn r
rows_sound {f} s = rows_in f s.in_range

-- what is left of a mapped list is mapped from what is left of the list
drop_map : {A B : Type 0} (g : A → B) (k : ℕ) (xs : List A) → drop k (map g xs) ≡ map g (drop k xs)
drop_map g zero xs = refl
drop_map g (suc k) [] = refl
drop_map g (suc k) (x ∷ xs) = drop_map g k xs

-- a row's schedules that ground 18 does not refuse
module _ (f : List ℕ) (w : RowWords) (e : schedules_outside f w ≡ false) where
  -- do not reach beyond the table that a header read from the file says
  pub schedules_lie : {h : HeaderValue} → HeaderRead f h → schedules_beyond (header_in h) w ≡ false
  unfolding schedules_outside
  schedules_lie r =
      let within : schedules_beyond (header_of f) w ≡ false = search facts in
      ap (λ h. schedules_beyond h w) r.says ∙ within

  -- are not too many
  pub schedules_few : length (schedules_named f w) ≤ most_row_schedules
  unfolding schedules_outside
  schedules_few = search facts

  -- are each of a kind
  pub kind_known : (k : ℕ) → k < length (schedules_named f w) → kind_outside (schedule_at f w k) ≡ false
  unfolding schedules_outside schedule_at
  kind_known k =
      let known : any kind_outside (schedules_named f w) ≡ false = search facts in
      none_place kind_outside no_schedule (schedules_named f w) k known

  -- and have the one dispatched on among them, if there are any
  pub dispatched_among : 0 < length (schedules_named f w) → w.dispatched < length (schedules_named f w)
  unfolding schedules_outside
  dispatched_among some =
      let number = length (schedules_named f w) in
      let late : (ltb 0 w.dispatched && leb number w.dispatched) ≡ false = search facts in
      by w.dispatched late
    where
      by : (d : ℕ) → (ltb 0 d && leb (length (schedules_named f w)) d) ≡ false → d < length (schedules_named f w)
      by zero late = some
      by (suc d) late = leb-false (length (schedules_named f w)) (suc d) (rw (lt-ltb 0 (suc d) (omega arith)) at late)

-- what `curve` hands out holds the schedule's curve
pub curve_is : (f : List ℕ) (s : ScheduleWords) {c : List ℕ} → c ≡ curve_part f s → points_in s.count c ≡ curve_of f s
unfolding curve_of
curve_is f s e = ap (points_in s.count) e

-- a curve has as many points as its schedule names
pub length_curve : (f : List ℕ) (s : ScheduleWords) → length (curve_of f s) ≡ s.count
unfolding curve_of points_in
length_curve f s = length_entries point_bytes point_of s.count (curve_part f s)

-- a schedule whose points ground 14 does not refuse
module _ {f : List ℕ} {s : ScheduleWords} (c : SoundCurve f s) where
  -- the number and place of its points are in order
  pub curve_placed : curve_misplaced (header_of f).point_count s ≡ false
  unfolding curve_outside
  curve_placed = let e = c.points in search facts

  -- also by the number of points that a header read from the file says
  pub curve_lies : {h : HeaderValue} → HeaderRead f h → curve_misplaced h.points s ≡ false
  curve_lies r = ap (λ n. curve_misplaced n s) (point_count_lem r) ∙ curve_placed

  -- it has points
  pub count_some : 1 ≤ s.count
  unfolding curve_misplaced outside
  count_some = let placed = curve_placed in search facts

-- a row that is sound
module _ {f : List ℕ} {w : RowWords} (s : Sound f w) where
  -- keeps the bounds of its words, whatever its schedules
  pub sound_in : (schedules : List Schedule) → RowIn (row_with w schedules)
  sound_in schedules = row_in_lem w schedules s.in_range

  -- none of its schedules is refused for its points
  pub schedule_sound : (k : ℕ) → k < length (schedules_named f w) → SoundCurve f (schedule_at f w k)
  unfolding points_outside schedule_at
  schedule_sound k below =
      record { points = none_place (curve_outside f) no_schedule (schedules_named f w) k s.points below }

-- the schedules of a row, as the rules speak of them
module _ (f : List ℕ) (w : RowWords) where
  -- are what its words name
  pub schedules_of : (row_of f w).schedules ≡ map (schedule_of f) (schedules_named f w)
  unfolding row_of row_with
  schedules_of = refl

  -- and as many
  pub length_schedules : length (row_of f w).schedules ≡ length (schedules_named f w)
  length_schedules = ap length schedules_of ∙ length-map (schedules_named f w) (schedule_of f)

  -- before any is read, all are left; below their number, those from k on are schedule k and those from k + 1 on
  pub next_schedule : (k : ℕ) → k < length (schedules_named f w)
      → drop k (row_of f w).schedules ≡ schedule_of f (schedule_at f w k) ∷ drop (k + 1) (row_of f w).schedules
  next_schedule k below =
      ap (drop k) schedules_of
      ∙ drop_map (schedule_of f) k (schedules_named f w)
      ∙ ap (map (schedule_of f)) (next_named f w k below)
      ∙ ap (λ l. schedule_of f (schedule_at f w k) ∷ l)
      (sym (drop_map (schedule_of f) (k + 1) (schedules_named f w)) ∙ ap (drop (k + 1)) (sym schedules_of))

  -- from their number on, none is left
  pub no_schedule_lem : (k : ℕ) → length (schedules_named f w) ≤ k → drop k (row_of f w).schedules ≡ []
  no_schedule_lem k beyond = drop_of_length-le (row_of f w).schedules {i = k} (omega (arith, length_schedules))
