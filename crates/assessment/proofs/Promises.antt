-- What the assessment of one row promises: shortfall or bonus, never both, and bounds of its figures.
use Prim.Native.Nat.{ℕ, suc, ◌+◌, ◌-◌, ◌*◌, ◌≤◌, min, max}
use mathlib.Core.Path.{◌≡◌, refl}
use mathlib.Core.Logic.{◌⊎◌, inl, inr, ⊎_elim}
use mathlib.Core.List.{List, [], ◌∷◌, Memᴰ}
use mathlib.Core.Bool.{Bool, true, false, cond}
use native.Mathlib.Decide.{dec_le}
use native.Mathlib.Omega.{arith}
use lib.ListN.{length}
use lib.IntN.{ℤ, pos, negsuc, nat_abs, ◌+ℤ◌, sub_ℕ}
use lib.Dec.{ltb}
use Rattle.words.proofs.Lists.{sum_most}
use Rattle.reading.specs.Interval.{most_kilowatts, most_imports, most_rows, Header, Point, Row, Kind, kind_of}
use Rattle.reading.proofs.Bounds.{HeaderIn, RowIn}
use Rattle.assessment.specs.Assessment.{most_actual, most_numerator, or_zero, actual, scheduled_by, dispatched_curve, scheduled, available, bonus_cut_by, bonus_cut, if_considered, Ratio, portion, expected, bonus_actual_as, bonus, numerator_share_as, numerator_share, import_share, numerator, denominator_share, denominator, whole_ratio, printed_ratio, outage, economic_rule, economic, shortfall, RowFigures, row_figures}
use Rattle.assessment.specs.Claims.{economic_by_cut, SameEconomic}
use Rattle.assessment.proofs.Opened.{by_kind}
use Rattle.assessment.proofs.ScheduleLaws.{economic_one}

-- a figure that is given only if its row is considered is no larger
pub if_le : (region_wide : ℕ) (r : Row) (x : ℕ) → if_considered region_wide r x ≤ x
unfolding if_considered
if_le region_wide r x = grind arith

-- and 0 where the figure is
pub if_zero : (region_wide : ℕ) (r : Row) (x : ℕ) → x ≡ 0 → if_considered region_wide r x ≡ 0
if_zero region_wide r x e = omega (arith, if_le region_wide r x)

-- the part of a whole that a ratio gives is at most the whole
pub portion_le : (q : Ratio) (whole : ℕ) → portion q whole ≤ whole
unfolding portion
portion_le q whole = grind arith

-- the printed ratio is at most a million millionths
pub printed_le : (q : Ratio) → printed_ratio q ≤ whole_ratio
unfolding printed_ratio
printed_le q = portion_le q whole_ratio

-- no more is expected of a row than its committed kW
pub expected_le : (q : Ratio) (r : Row) → expected q r ≤ r.committed
unfolding by_kind
expected_le q r = grind (arith, portion_le)

-- the kW that a bonus is taken from are at most the actual
bonus_actual_le : (k : Kind) (r : Row) → bonus_actual_as k r ≤ actual r
unfolding bonus_actual_as
bonus_actual_le k r = grind arith

-- a bonus is at most what the actual has above the expected kW
bonus_le : (r : Row) (e : ℕ) → bonus r e ≤ actual r - e
unfolding bonus
bonus_le r e = omega (arith, bonus_actual_le (kind_of r.kind) r)

-- a shortfall is at most what the expected kW have above the actual
shortfall_le : (r : Row) (e : ℕ) → shortfall r e ≤ e - actual r
unfolding shortfall
shortfall_le r e = omega arith

-- an outage is at most the planned kW
outage_le : (r : Row) → outage r ≤ r.planned
unfolding by_kind
outage_le r = grind arith

-- the economic kW are at most the expected kW
economic_le : (r : Row) (e : ℕ) → economic r e ≤ e
unfolding by_kind economic_rule
economic_le r e = grind arith

-- with one schedule both are its scheduled kW; without points neither leaves the economic rule anything,
-- as no more is expected than the committed kW
pub same_economic : SameEconomic
unfolding SameEconomic economic_by_cut economic_rule bonus_cut_by bonus_cut scheduled_by scheduled
same_economic q r few = rw (economic_one r few) (by (dispatched_curve r) (expected q r) (expected_le q r))
  where
    by : (ps : List Point) (e : ℕ) → e ≤ r.committed
        → min r.maximum (min e (available r)) - max (bonus_cut_by ps r) (actual r)
        ≡ min r.maximum (min e (available r)) - max (scheduled_by ps r) (actual r)
    by [] e h = omega arith
    by (p ∷ ps) e h = refl

-- the difference of two numbers, or 0 if it is negative, is at most the first
orZero_subℕ : (m n : ℕ) → or_zero (sub_ℕ m n) ≤ m
unfolding or_zero
orZero_subℕ m n = by (ltb m n)
  where
    by : (t : Bool) → or_zero (cond t (negsuc (n - suc m)) (pos (m - n))) ≤ m
    by true = omega arith
    by false = omega arith

-- a signed number, or 0 if it is negative, is at most its magnitude
pub or_zero_le : (z : ℤ) → or_zero z ≤ nat_abs z
unfolding or_zero
or_zero_le (pos n) = omega arith
or_zero_le (negsuc n) = omega arith

-- the sum of two signed numbers, or 0 if it is negative, is at most both magnitudes
pub or_zero_sum : (x y : ℤ) → or_zero (x +ℤ y) ≤ nat_abs x + nat_abs y
unfolding or_zero
or_zero_sum (pos m) (pos n) = omega arith
or_zero_sum (pos m) (negsuc n) = omega (arith, orZero_subℕ m (suc n))
or_zero_sum (negsuc m) (pos n) = omega (arith, orZero_subℕ n (suc m))
or_zero_sum (negsuc m) (negsuc n) = omega arith

-- the actual of a row that ground 13 does not refuse is at most twice the most kW
pub actual_le : (r : Row) → RowIn r → actual r ≤ most_actual
unfolding actual
actual_le r i = omega (arith, or_zero_sum r.metered r.adjustment, i.metered, i.adjustment)

-- no row has a shortfall and a bonus, whatever is expected of it
never_both : (r : Row) (e : ℕ) → (shortfall r e ≡ 0) ⊎ (bonus r e ≡ 0)
never_both r e =
    elim (dec_le e (actual r)) [ yes h ↦ inl (omega (arith, shortfall_le r e)) | no h ↦ inr (omega (arith, bonus_le r e)) ]

-- so of a row's figures, in any event and at any ratio, the shortfall or the bonus is 0
pub exclusive : (region_wide : ℕ) (q : Ratio) (r : Row)
    → ((row_figures region_wide q r).shortfall ≡ 0) ⊎ ((row_figures region_wide q r).bonus ≡ 0)
unfolding row_figures
exclusive region_wide q r =
    ⊎_elim
    (λ h. inl (if_zero region_wide r (shortfall r (expected q r)) h))
    (λ h. inr (if_zero region_wide r (bonus r (expected q r)) h))
    (never_both r (expected q r))

-- the figures of a row that ground 13 does not refuse
pub record FiguresIn (f : RowFigures) : Type 0 where
  pub expected : f.expected ≤ most_kilowatts
  pub actual : f.actual ≤ most_actual
  pub outage : f.outage ≤ most_kilowatts
  pub economic : f.economic ≤ most_kilowatts
  pub shortfall : f.shortfall ≤ most_kilowatts
  pub bonus : f.bonus ≤ most_actual

-- a row within its bounds has figures within theirs, in any event and at any ratio
pub figures_in_lem : (region_wide : ℕ) (q : Ratio) (r : Row) → RowIn r → FiguresIn (row_figures region_wide q r)
unfolding row_figures
figures_in_lem region_wide q r i =
    let e = expected q r in
    let expect : e ≤ most_kilowatts = omega (arith, expected_le q r, i.committed) in
    record {
      expected = omega (arith, if_le region_wide r e, expect);
      actual = omega (arith, if_le region_wide r (actual r), actual_le r i);
      outage = omega (arith, if_le region_wide r (outage r), outage_le r, i.planned);
      economic = omega (arith, if_le region_wide r (economic r e), economic_le r e, expect);
      shortfall = omega (arith, if_le region_wide r (shortfall r e), shortfall_le r e, expect);
      bonus = omega (arith, if_le region_wide r (bonus r e), bonus_le r e, actual_le r i);
    }

-- a row of a kind adds at most its actual to the numerator
share_le : (k : Kind) (r : Row) → numerator_share_as k r ≤ actual r
unfolding numerator_share_as
share_le k r = grind (arith, bonus_le r r.committed)

-- a row that ground 13 does not refuse adds at most twice the most kW to the numerator
pub numerator_share_le : (region_wide : ℕ) (r : Row) → RowIn r → numerator_share region_wide r ≤ most_actual
unfolding numerator_share
numerator_share_le region_wide r i =
    let share = numerator_share_as (kind_of r.kind) r in
    omega (arith, if_le region_wide r share, share_le (kind_of r.kind) r, actual_le r i)

-- the net imports of a header that ground 9 does not refuse add at most the most imports
pub import_share_le : (h : Header) → HeaderIn h → import_share h ≤ most_imports
unfolding import_share
import_share_le h i = grind (arith, or_zero_le, i.imports)

-- the numerator of a file that grounds 9, 11 and 13 do not refuse
pub numerator_le : (h : Header) (rs : List Row) → HeaderIn h → length rs ≤ most_rows
    → ((r : Row) → Memᴰ r rs → RowIn r)
    → numerator h rs ≤ most_numerator
unfolding numerator
numerator_le h rs i few rows =
    let each : (r : Row) → Memᴰ r rs → numerator_share h.region_wide r ≤ most_actual
    = λ r m. numerator_share_le h.region_wide r (rows r m) in
    omega (arith, sum_most (numerator_share h.region_wide) most_actual most_rows rs few each, import_share_le h i)

-- a row that ground 13 does not refuse adds at most the most kW to the denominator
pub denominator_share_le : (r : Row) → RowIn r → denominator_share r ≤ most_kilowatts
unfolding by_kind
denominator_share_le r i = grind (arith, i.committed)

-- the denominator is at most the most kW for each of the most rows
pub denominator_le : (rs : List Row) → length rs ≤ most_rows → ((r : Row) → Memᴰ r rs → RowIn r)
    → denominator rs ≤ most_rows * most_kilowatts
unfolding denominator
denominator_le rs few rows =
    sum_most denominator_share most_kilowatts most_rows rs few (λ r m. denominator_share_le r (rows r m))
