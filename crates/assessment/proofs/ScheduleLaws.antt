-- A row's schedules: the one that it was dispatched on, and the highest kW of those that the economic rule looks at.
use Prim.Native.Nat.{ℕ, zero, suc, ◌+◌, ◌≤◌, ◌<◌, max}
use mathlib.Core.Path.{◌≡◌, refl, sym, ap, ap₂, ◌∙◌}
use mathlib.Core.List.{List, [], ◌∷◌, map}
use mathlib.Core.Bool.{true, false}
use native.Mathlib.Omega.{arith}
use lib.ListN.{length, take, drop}
use lib.Seq.{drop-nil}
use Rattle.reading.specs.Interval.{
  Point,
  RowWords,
  Schedule,
  Row,
  schedules_named,
  schedule_at,
  curve_part,
  points_in,
  curve_of,
  schedule_of,
  row_with,
  row_of,
}
use Rattle.reading.specs.Values.{schedule_in, Dispatched, SoundCurve}
use Rattle.reading.specs.declared.rows.Schedule.{Schedule as ScheduleValue}
use Rattle.reading.proofs.SoundRows.{
  schedules_of,
  next_schedule,
  no_schedule_lem,
  length_schedules,
  curve_is,
  length_curve,
  count_some,
}
use Rattle.assessment.specs.Assessment.{
  scheduled_by,
  dispatched_on,
  first_curve,
  dispatched_curve,
  scheduled,
  available,
  bonus_cut_by,
  bonus_cut,
  looks_at,
  counted_for,
  highest,
  economic_by,
  economic_scheduled,
}

-- a schedule counts at most its scheduled kW
counted_le : (on : ℕ) (r : Row) (s : Schedule) → counted_for on r s ≤ scheduled_by s.curve r
unfolding counted_for
counted_le on r s = grind arith

-- the rules, by the schedule that a row was dispatched on
module _ (r : Row) where
  -- without one there is no curve
  pub none_curve : dispatched_on r ≡ [] → dispatched_curve r ≡ []
  unfolding dispatched_curve first_curve
  none_curve none = ap first_curve none

  -- bonus is cut to what is available
  pub cut_none : dispatched_on r ≡ [] → available r ≡ bonus_cut r
  unfolding bonus_cut bonus_cut_by
  cut_none none = ap (λ ps. bonus_cut_by ps r) (sym (none_curve none))

  -- scheduled are the committed kW
  scheduled_none : dispatched_on r ≡ [] → scheduled r ≡ r.committed
  unfolding scheduled scheduled_by
  scheduled_none none = ap (λ ps. scheduled_by ps r) (none_curve none)

  -- and the economic rule takes them
  pub economic_none : dispatched_on r ≡ [] → r.committed ≡ economic_scheduled r
  unfolding economic_scheduled economic_by
  economic_none none = ap (λ on. economic_by on r) (sym none)

  -- with a curve bonus is cut to the scheduled kW
  pub cut_some : 0 < length (dispatched_curve r) → scheduled r ≡ bonus_cut r
  unfolding scheduled bonus_cut bonus_cut_by
  cut_some = by (dispatched_curve r)
    where
      by : (ps : List Point) → 0 < length ps → scheduled_by ps r ≡ bonus_cut_by ps r
      by [] some = absurd (omega arith)
      by (p ∷ ps) some = refl

  -- with a schedule, scheduled is by its curve
  scheduled_on : (s : Schedule) → dispatched_on r ≡ s ∷ [] → scheduled r ≡ scheduled_by s.curve r
  unfolding scheduled dispatched_curve first_curve
  scheduled_on s on = ap (λ on. scheduled_by (first_curve on) r) on

  -- and the economic rule takes the highest by that one and by those that it looks at
  economic_on : (s : Schedule) → dispatched_on r ≡ s ∷ []
      → economic_scheduled r ≡ max (scheduled r) (highest s.kind r r.schedules)
  unfolding economic_scheduled economic_by
  economic_on s on =
      ap (λ on. economic_by on r) on
      ∙ ap (λ kw. max kw (highest s.kind r r.schedules)) (sym (scheduled_on s on))

  -- of one schedule or none it takes the scheduled kW, whatever the kind
  pub economic_one : length r.schedules ≤ 1 → economic_scheduled r ≡ scheduled r
  unfolding dispatched_on highest
  economic_one = by r.schedules refl
    where
      -- dispatched on none
      on_none : dispatched_on r ≡ [] → economic_scheduled r ≡ scheduled r
      on_none none = sym (economic_none none) ∙ sym (scheduled_none none)

      -- dispatched on the one, or beyond it
      placed : (s : Schedule) (d : ℕ) → r.schedules ≡ s ∷ [] → r.dispatched ≡ d → economic_scheduled r ≡ scheduled r
      placed s zero e d =
          let on : dispatched_on r ≡ s ∷ [] = ap₂ (λ d ss. take 1 (drop d ss)) d e in
          let all = ap (highest s.kind r) e in
          omega (arith, economic_on s on, scheduled_on s on, all, counted_le s.kind r s)
      placed s (suc n) e d = on_none (ap₂ (λ d ss. take 1 (drop d ss)) d e ∙ ap (take 1) (drop-nil n))

      by : (ss : List Schedule) → r.schedules ≡ ss → length ss ≤ 1 → economic_scheduled r ≡ scheduled r
      by [] e few = on_none (ap (λ ss. take 1 (drop r.dispatched ss)) e ∙ ap (take 1) (drop-nil r.dispatched))
      by (s ∷ []) e few = placed s r.dispatched e refl
      by (s ∷ t ∷ ss) e few = absurd (omega arith)

-- what a schedule counts, by whether the economic rule looks at it
module _ (on : ℕ) (r : Row) (s : Schedule) where
  -- looked at, its scheduled kW
  pub counted_yes : looks_at on s.kind ≡ true → scheduled_by s.curve r ≡ counted_for on r s
  unfolding counted_for
  counted_yes e = rw e

  -- else nothing
  pub counted_no : looks_at on s.kind ≡ false → 0 ≡ counted_for on r s
  unfolding counted_for
  counted_no e = rw e

-- a row of a file that names no schedules
module _ (f : List ℕ) (w : RowWords) (none : schedules_named f w ≡ []) where
  -- was dispatched on none
  pub on_nothing : dispatched_on (row_of f w) ≡ []
  unfolding dispatched_on
  on_nothing =
      let d = (row_of f w).dispatched in
      let empty = schedules_of f w ∙ ap (map (schedule_of f)) none in
      ap (λ ss. take 1 (drop d ss)) empty ∙ ap (take 1) (drop-nil d)

  -- so there is no curve
  pub no_curve : dispatched_curve (row_of f w) ≡ []
  no_curve = none_curve (row_of f w) on_nothing

  -- bonus is cut to what is available
  pub cut_unnamed : available (row_of f w) ≡ bonus_cut (row_of f w)
  cut_unnamed = cut_none (row_of f w) on_nothing

  -- and the economic rule takes the committed kW
  pub economic_unnamed : (row_of f w).committed ≡ economic_scheduled (row_of f w)
  economic_unnamed = economic_none (row_of f w) on_nothing

-- before schedule k of a row dispatched on one of a kind: the highest so far, with what those left count,
-- is what the economic rule takes, and it is no less than the row's own
pub record Highest (r : Row) (on k most : ℕ) : Type 0 where
  pub rest : max most (highest on r (drop k r.schedules)) ≡ economic_scheduled r
  pub own : scheduled r ≤ most

-- a row of a file
module _ (f : List ℕ) (w : RowWords) where
  -- what schedule k counts is taken, if it is higher
  pub highest_turn : {on k most more : ℕ} → Highest (row_of f w) on k most → k < length (schedules_named f w)
      → more ≡ counted_for on (row_of f w) (schedule_of f (schedule_at f w k))
      → Highest (row_of f w) on (k + 1) (max most more)
  unfolding highest
  highest_turn {on} {k} h below is =
      let next = ap (highest on (row_of f w)) (next_schedule f w k below) in
      record { rest = omega (arith, h.rest, next, is); own = omega (arith, h.own) }

  -- with no schedule left, the highest is what the economic rule takes
  pub highest_end : {on k most : ℕ} → Highest (row_of f w) on k most → length (schedules_named f w) ≤ k
      → most ≡ economic_scheduled (row_of f w)
  unfolding highest
  highest_end {on} {k} h done =
      let none = ap (highest on (row_of f w)) (no_schedule_lem f w k done) in omega (arith, h.rest, none)

-- a row that was dispatched on one of its schedules
module _ (f : List ℕ) (w : RowWords) (among : w.dispatched < length (schedules_named f w)) where
  -- which that is
  on_read : dispatched_on (row_of f w) ≡ schedule_of f (schedule_at f w w.dispatched) ∷ []
  unfolding dispatched_on row_of row_with
  on_read = ap (take 1) (next_schedule f w w.dispatched among)

  -- its curve
  curve_read : dispatched_curve (row_of f w) ≡ curve_of f (schedule_at f w w.dispatched)
  unfolding dispatched_curve first_curve schedule_of
  curve_read = ap first_curve on_read

  -- before the first schedule, the row's own is the highest
  pub highest_start : {on own : ℕ} → on ≡ (schedule_at f w w.dispatched).kind → own ≡ scheduled (row_of f w)
      → Highest (row_of f w) on 0 own
  unfolding schedule_of
  highest_start kind is =
      let takes = economic_on (row_of f w) (schedule_of f (schedule_at f w w.dispatched)) on_read in
      let all = ap (λ on. highest on (row_of f w) (row_of f w).schedules) kind in
      record { rest = omega (arith, is, takes, all); own = omega (arith, is) }

  -- it need not be taken once more
  pub highest_skip : {on k most : ℕ} → Highest (row_of f w) on k most → k ≡ w.dispatched
      → Highest (row_of f w) on (k + 1) most
  unfolding highest
  highest_skip {on} {k} h e =
      let s = schedule_of f (schedule_at f w k) in
      let next = ap (highest on (row_of f w)) (next_schedule f w k (omega (arith, e, among))) in
      let same = ap (λ k. schedule_of f (schedule_at f w k) ∷ []) e in
      let own = scheduled_on (row_of f w) s (on_read ∙ sym same) in
      record { rest = omega (arith, h.rest, h.own, next, own, counted_le on (row_of f w) s); own = h.own }

-- the curve that is handed out for a schedule of a file
module _ (f : List ℕ) (s : ScheduleValue) {n : ℕ} {c : List ℕ} (part : c ≡ curve_part f (schedule_in s))
    (count : n ≡ s.points) where
  -- has the schedule's points
  pub handed_out : points_in n c ≡ curve_of f (schedule_in s)
  unfolding schedule_in
  handed_out = ap (λ n. points_in n c) count ∙ curve_is f (schedule_in s) part

  -- which are those that a row was dispatched on, if it was on this schedule
  pub dispatched_points : {w : RowWords} → Dispatched f w s → points_in n c ≡ dispatched_curve (row_of f w)
  dispatched_points {w} d = handed_out ∙ ap (curve_of f) d.says ∙ sym (curve_read f w d.among)

  -- so what the curve says of that row, whatever its schedules, is Scheduled
  pub dispatched_scheduled : {w : RowWords} → Dispatched f w s → {kw : ℕ}
      → ((ss : List Schedule) → kw ≡ scheduled_by (points_in n c) (row_with w ss)) → kw ≡ scheduled (row_of f w)
  unfolding scheduled row_of row_with
  dispatched_scheduled {w} d is =
      is (row_of f w).schedules ∙ ap (λ ps. scheduled_by ps (row_of f w)) (dispatched_points d)

  -- which is what bonus is cut to, if the curve has points
  pub dispatched_cut : {w : RowWords} → Dispatched f w s → SoundCurve f (schedule_in s) → {kw : ℕ}
      → ((ss : List Schedule) → kw ≡ scheduled_by (points_in n c) (row_with w ss)) → kw ≡ bonus_cut (row_of f w)
  dispatched_cut {w} d sound is =
      let curve = ap length (sym (dispatched_points d) ∙ handed_out) in
      let long = length_curve f (schedule_in s) in
      dispatched_scheduled d is ∙ cut_some (row_of f w) (omega (arith, curve, long, count_some sound))

-- a schedule whose points ground 14 does not refuse has some
pub some_points : {f : List ℕ} (s : ScheduleValue) → SoundCurve f (schedule_in s) → 0 < s.points
unfolding schedule_in
some_points s sound = count_some sound

-- what is known of what a schedule counts, and of the highest
pub ruleset counting = (some_points, handed_out, counted_yes, counted_no)

pub ruleset height = (economic_one, length_schedules, highest_start, highest_end)
