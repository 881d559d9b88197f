-- The assessment of one interval, rule by rule, over rows and accounts.
-- Figures are kW but for limit, charge, pool, credit and carried, which are cents.
use Rattle.std.specs.Prelude.{ℕ, ◌+◌, ◌-◌, ◌*◌, ◌/◌, min, max, List, [], ◌∷◌, map, Bool, true, false, cond, not, take, drop, ℤ, pos, negsuc, nat_abs, ◌+ℤ◌, ◌-ℤ◌, ltb, eqb}
use Rattle.std.specs.Int.Signed.{le_z, lt_z}
use Rattle.words.specs.Lists.{sum}
use Rattle.reading.specs.Block.{Terms, transition_year}
use Rattle.reading.specs.Interval.{
  most_kilowatts,
  most_imports,
  most_rows,
  market,
  price_based,
  Header,
  Point,
  Schedule,
  Row,
  Kind,
  generation,
  demand,
  efficiency,
  responsive,
  energy_only,
  importer,
  no_kind,
  kind_of,
}

-- the ratio is printed in millionths
abbrev pub whole_ratio : ℕ
whole_ratio = 1000000

-- of the limit: three halves, or three quarters, of Net CONE times days times kW
abbrev pub limit_factor : ℕ
limit_factor = 3

-- the most cents of a pool, and so the most carried
abbrev pub most_cents : ℕ
most_cents = 1099511627775

-- the most actual kW of a row: metered plus adjustment; and so its most bonus
abbrev pub most_actual : ℕ
most_actual = 2 * most_kilowatts

-- the most kW of a numerator: the imports, and the actual of each row
abbrev pub most_numerator : ℕ
most_numerator = most_imports + most_actual * most_rows

-- a signed number, or 0 if it is negative
unfoldable pub or_zero : ℤ → ℕ
or_zero (pos n) = n
or_zero (negsuc n) = 0

-- Actual: metered plus adjustment, or 0 if that is negative
unfoldable pub actual : Row → ℕ
actual r = or_zero (r.metered +ℤ r.adjustment)

-- the first of two lists that is not empty
unfoldable pub or_else : List Point → List Point → List Point
or_else [] later = later
or_else (p ∷ ps) later = p ∷ ps

-- the curve from the last point on whose price is at or below the LMP; empty if no price is
unfoldable pub from_last_reached : ℤ → List Point → List Point
from_last_reached lmp [] = []
from_last_reached lmp (p ∷ ps) = or_else (from_last_reached lmp ps) (cond (le_z p.price lmp) (p ∷ ps) [])

-- on the curve from that point on: its kW if it is the final one,
-- else on towards the next in proportion to price, rounded down
unfoldable pub along_curve : ℤ → List Point → ℕ
along_curve lmp [] = 0
along_curve lmp (p ∷ []) = p.kw
along_curve lmp (p ∷ q ∷ qs) = p.kw + nat_abs (lmp -ℤ p.price) * (q.kw - p.kw) / nat_abs (q.price -ℤ p.price)

-- the price of the last point of p and those after it
unfoldable pub last_price : Point → List Point → ℤ
last_price p [] = p.price
last_price p (q ∷ qs) = last_price q qs

-- the economic minimum if online, else 0
unfoldable pub minimum_online : Row → ℕ
minimum_online r = cond (eqb r.online 1) r.minimum 0

-- Scheduled, by a curve: no points; an LMP below the first price; above the last;
-- else along the curve, raised to the minimum if online and cut to the maximum
unfoldable pub scheduled_by : List Point → Row → ℕ
scheduled_by [] r = r.committed
scheduled_by (p ∷ ps) r =
    cond (lt_z r.lmp p.price) (minimum_online r)
    (cond (lt_z (last_price p ps) r.lmp) r.maximum
    (min (max (along_curve r.lmp (from_last_reached r.lmp (p ∷ ps))) (minimum_online r)) r.maximum))

-- the schedule that a row was dispatched on, or nothing
unfoldable pub dispatched_on : Row → List Schedule
dispatched_on r = take 1 (drop r.dispatched r.schedules)

-- the curve of the first of some schedules, without points if there is none
unfoldable pub first_curve : List Schedule → List Point
first_curve [] = []
first_curve (s ∷ ss) = s.curve

-- the curve of the schedule that a row was dispatched on
unfoldable pub dispatched_curve : Row → List Point
dispatched_curve r = first_curve (dispatched_on r)

-- Scheduled, by the schedule that a row was dispatched on
unfoldable pub scheduled : Row → ℕ
scheduled r = scheduled_by (dispatched_curve r) r

-- the kW of the first of some points, 0 if there is none
unfoldable pub first_kw : List Point → ℕ
first_kw [] = 0
first_kw (p ∷ ps) = p.kw

-- owned minus both outages, at least 0
unfoldable pub available : Row → ℕ
available r = r.owned - (r.planned + r.forced)

-- what bonus is cut to, by a curve: with no points what is available, neither raised nor cut; else the scheduled kW
unfoldable pub bonus_cut_by : List Point → Row → ℕ
bonus_cut_by [] r = available r
bonus_cut_by (p ∷ ps) r = scheduled_by (p ∷ ps) r

-- what bonus is cut to, by the schedule that a row was dispatched on
unfoldable pub bonus_cut : Row → ℕ
bonus_cut r = bonus_cut_by (dispatched_curve r) r

-- whether a row dispatched on a schedule of one kind has the economic rule look at a schedule of another:
-- on market at all, on price-based PLS at PLS and cost, on cost at none beside its own
unfoldable pub looks_at : ℕ → ℕ → Bool
looks_at on other = cond (eqb on market) true (cond (eqb on price_based) (not (eqb other market)) false)

-- what a schedule counts for a row dispatched on one of a kind: its scheduled kW if the economic rule looks at it
unfoldable pub counted_for : ℕ → Row → Schedule → ℕ
counted_for on r s = cond (looks_at on s.kind) (scheduled_by s.curve r) 0

-- the highest that some schedules count
unfoldable pub highest : ℕ → Row → List Schedule → ℕ
highest on r [] = 0
highest on r (s ∷ ss) = max (counted_for on r s) (highest on r ss)

-- the scheduled kW that the economic rule takes, by the schedule dispatched on: with none the committed kW;
-- else the highest, by that one or by one of the row's that the rule looks at
unfoldable pub economic_by : List Schedule → Row → ℕ
economic_by [] r = r.committed
economic_by (s ∷ ss) r = max (scheduled_by s.curve r) (highest s.kind r r.schedules)

-- the scheduled kW that the economic rule takes
unfoldable pub economic_scheduled : Row → ℕ
economic_scheduled r = economic_by (dispatched_on r) r

-- Considered, by the event's region-wide word: PRD if its last point at or below the LMP is above 0 kW,
-- importers if region-wide, other kinds always
unfoldable pub considered_as : Kind → ℕ → Row → Bool
considered_as generation region_wide r = true
considered_as demand region_wide r = true
considered_as efficiency region_wide r = true
considered_as responsive region_wide r = ltb 0 (first_kw (from_last_reached r.lmp (dispatched_curve r)))
considered_as energy_only region_wide r = true
considered_as importer region_wide r = eqb region_wide 1
considered_as no_kind region_wide r = false

-- Considered, by the kind word
unfoldable pub considered : ℕ → Row → Bool
considered region_wide r = considered_as (kind_of r.kind) region_wide r

-- a figure of a row, 0 if the row is not considered
unfoldable pub if_considered : ℕ → Row → ℕ → ℕ
if_considered region_wide r figure = cond (considered region_wide r) figure 0

-- the two sides of the balancing ratio
pub record Ratio : Type 0 where
  pub numerator : ℕ
  pub denominator : ℕ

-- the part of a whole that a ratio gives: multiplied, divided and rounded down once;
-- at most the whole, and 0 without a denominator
unfoldable pub portion : Ratio → ℕ → ℕ
portion q whole = cond (eqb q.denominator 0) 0 (min (whole * q.numerator / q.denominator) whole)

-- Expected: by the ratio for kind 0, the committed kW for kinds 1, 2 and 3, 0 for kinds 4 and 5
unfoldable pub expected_as : Kind → Ratio → Row → ℕ
expected_as generation q r = portion q r.committed
expected_as demand q r = r.committed
expected_as efficiency q r = r.committed
expected_as responsive q r = r.committed
expected_as energy_only q r = 0
expected_as importer q r = 0
expected_as no_kind q r = 0

-- Expected, by the kind word
unfoldable pub expected : Ratio → Row → ℕ
expected q r = expected_as (kind_of r.kind) q r

-- the actual that a bonus is taken from: for kinds 0 and 4 first cut
unfoldable pub bonus_actual_as : Kind → Row → ℕ
bonus_actual_as generation r = min (actual r) (bonus_cut r)
bonus_actual_as demand r = actual r
bonus_actual_as efficiency r = actual r
bonus_actual_as responsive r = actual r
bonus_actual_as energy_only r = min (actual r) (bonus_cut r)
bonus_actual_as importer r = actual r
bonus_actual_as no_kind r = 0

-- Bonus, of a row of which so many kW are expected: actual minus expected where positive
unfoldable pub bonus : Row → ℕ → ℕ
bonus r expect = bonus_actual_as (kind_of r.kind) r - expect

-- what a row adds to the numerator: its actual for kinds 0 and 4, its bonus for kinds 1 and 3,
-- of which the committed kW are expected
unfoldable pub numerator_share_as : Kind → Row → ℕ
numerator_share_as generation r = actual r
numerator_share_as demand r = bonus r r.committed
numerator_share_as efficiency r = 0
numerator_share_as responsive r = bonus r r.committed
numerator_share_as energy_only r = actual r
numerator_share_as importer r = 0
numerator_share_as no_kind r = 0

-- the same by the kind word; a row not considered adds nothing
unfoldable pub numerator_share : ℕ → Row → ℕ
numerator_share region_wide r = if_considered region_wide r (numerator_share_as (kind_of r.kind) r)

-- what the net imports add: only when region-wide, if positive
unfoldable pub import_share : Header → ℕ
import_share h = cond (eqb h.region_wide 1) (or_zero h.imports) 0

-- Numerator
unfoldable pub numerator : Header → List Row → ℕ
numerator h rs = sum (numerator_share h.region_wide) rs + import_share h

-- what a row adds to the denominator: the committed kW of kind 0
unfoldable pub denominator_share_as : Kind → Row → ℕ
denominator_share_as generation r = r.committed
denominator_share_as demand r = 0
denominator_share_as efficiency r = 0
denominator_share_as responsive r = 0
denominator_share_as energy_only r = 0
denominator_share_as importer r = 0
denominator_share_as no_kind r = 0

-- the same by the kind word
unfoldable pub denominator_share : Row → ℕ
denominator_share r = denominator_share_as (kind_of r.kind) r

-- Denominator
unfoldable pub denominator : List Row → ℕ
denominator rs = sum denominator_share rs

-- numerator over denominator
unfoldable pub ratio_of : Header → List Row → Ratio
ratio_of h rs = record { numerator = numerator h rs; denominator = denominator rs }

-- the printed ratio, in millionths
unfoldable pub printed_ratio : Ratio → ℕ
printed_ratio q = portion q whole_ratio

-- Outage: word 6, of kinds 0 and 4 alone
unfoldable pub outage_as : Kind → Row → ℕ
outage_as generation r = r.planned
outage_as demand r = 0
outage_as efficiency r = 0
outage_as responsive r = 0
outage_as energy_only r = r.planned
outage_as importer r = 0
outage_as no_kind r = 0

-- Outage, by the kind word
unfoldable pub outage : Row → ℕ
outage r = outage_as (kind_of r.kind) r

-- the least of emergency maximum, expected and available, minus the greater of scheduled and actual; 0 if negative
unfoldable pub economic_rule : Row → ℕ → ℕ
economic_rule r expect = min r.maximum (min expect (available r)) - max (economic_scheduled r) (actual r)

-- Economic, of a row of which so many kW are expected: by that rule for kinds 0 and 4, else 0
unfoldable pub economic_as : Kind → Row → ℕ → ℕ
economic_as generation r expect = economic_rule r expect
economic_as demand r expect = 0
economic_as efficiency r expect = 0
economic_as responsive r expect = 0
economic_as energy_only r expect = economic_rule r expect
economic_as importer r expect = 0
economic_as no_kind r expect = 0

-- Economic, by the kind word
unfoldable pub economic : Row → ℕ → ℕ
economic r expect = economic_as (kind_of r.kind) r expect

-- Shortfall, of a row of which so many kW are expected: expected minus actual, outage and economic, where positive
unfoldable pub shortfall : Row → ℕ → ℕ
shortfall r expect = expect - (actual r + outage r + economic r expect)

-- the first six words of a row in the result
pub record RowFigures : Type 0 where
  pub expected : ℕ
  pub actual : ℕ
  pub outage : ℕ
  pub economic : ℕ
  pub shortfall : ℕ
  pub bonus : ℕ

-- a row's figures in an event, at a ratio; all are 0 if the row is not considered
unfoldable pub row_figures : ℕ → Ratio → Row → RowFigures
row_figures region_wide q r =
    let expect = expected q r in
    record {
      expected = if_considered region_wide r expect;
      actual = if_considered region_wide r (actual r);
      outage = if_considered region_wide r (outage r);
      economic = if_considered region_wide r (economic r expect);
      shortfall = if_considered region_wide r (shortfall r expect);
      bonus = if_considered region_wide r (bonus r expect);
    }

-- an account: id, largest commitment so far, charged, credited
pub record Account : Type 0 where
  pub id : ℕ
  pub largest : ℕ
  pub charged : ℕ
  pub credited : ℕ

-- an account of an id, with nothing in it
unfoldable pub empty_account : ℕ → Account
empty_account i = record { id = i; largest = 0; charged = 0; credited = 0 }

-- the account with an id; an empty one where there is none, which ground 12 rules out
unfoldable pub account_of : ℕ → List Account → Account
account_of i [] = empty_account i
account_of i (a ∷ rest) = cond (eqb a.id i) a (account_of i rest)

-- an account whose largest commitment is raised to so many kW, if that is larger
unfoldable pub raised : ℕ → Account → Account
raised kw a = record { id = a.id; largest = max a.largest kw; charged = a.charged; credited = a.credited }

-- an account with a charge and a credit added
unfoldable pub added : ℕ → ℕ → Account → Account
added charge credit a =
    record { id = a.id; largest = a.largest; charged = a.charged + charge; credited = a.credited + credit }

-- the divisors of a year's limits and charges
pub record Divisors : Type 0 where
  pub limit : ℕ
  pub charge : ℕ

-- by the year; of a limit: 2 from the three halves, or 4 from three quarters, and 1000 kW to the MW; of a charge:
-- 1000 kW to the MW, 30 hours, 12 intervals an hour, doubled where the charge is halved
unfoldable pub divisors : Terms → Divisors
divisors t =
    cond (eqb t.year transition_year)
    (record { limit = 4000; charge = 720000 })
    (record { limit = 2000; charge = 360000 })

-- three times Net CONE times days times kW over a divisor, rounded down
unfoldable pub limit_over : ℕ → Terms → ℕ → ℕ
limit_over divisor t kw = limit_factor * t.net_cone * t.days * kw / divisor

-- Limit, for a largest commitment of so many kW
unfoldable pub limit : Terms → ℕ → ℕ
limit t kw = limit_over (divisors t).limit t kw

-- shortfall times Net CONE times days over a divisor, to the nearest cent, half a cent upward
unfoldable pub charge_over : ℕ → Terms → ℕ → ℕ
charge_over divisor t short = (short * t.net_cone * t.days + divisor / 2) / divisor

-- the charge for a shortfall before the limit cuts it
unfoldable pub full_charge : Terms → ℕ → ℕ
full_charge t short = charge_over (divisors t).charge t short

-- Charge, for a shortfall, to an account that the row has raised: cut to what is left under the limit
unfoldable pub charge : Terms → Account → ℕ → ℕ
charge t a short = min (full_charge t short) (limit t a.largest - a.charged)

-- a row with its figures and its charge
pub record ChargedRow : Type 0 where
  pub row : Row
  pub figures : RowFigures
  pub charge : ℕ

-- a row of an event, with its charge to its account as it stood before the interval;
-- one not considered has no shortfall, and so no charge
unfoldable pub charged_row : Terms → List Account → ℕ → Ratio → Row → ChargedRow
charged_row t accounts region_wide q r =
    let figures = row_figures region_wide q r in
    record {
      row = r;
      figures = figures;
      charge = charge t (raised r.committed (account_of r.id accounts)) figures.shortfall;
    }

-- an interval: the ratio, the charged rows in file order, and the cents carried into it
pub record Assessed : Type 0 where
  pub ratio : Ratio
  pub rows : List ChargedRow
  pub carried : ℕ

-- the interval that rows make, on terms, accounts and cents carried before it
unfoldable pub assessed : Terms → List Account → ℕ → Header → List Row → Assessed
assessed t accounts carried h rs =
    let q = ratio_of h rs in
    record { ratio = q; rows = map (charged_row t accounts h.region_wide q) rs; carried = carried }

-- charges: the sum over an interval's rows
unfoldable pub charges : Assessed → ℕ
charges v = sum (λ c. c.charge) v.rows

-- total bonus: likewise
unfoldable pub total_bonus : Assessed → ℕ
total_bonus v = sum (λ c. c.figures.bonus) v.rows

-- Pool: the cents carried plus the charges
unfoldable pub pool : Assessed → ℕ
pool v = v.carried + charges v

-- a share of so many cents by bonus, multiplied before it is divided by the total, and rounded down;
-- with no bonus nothing is shared
unfoldable pub share : ℕ → ℕ → ℕ → ℕ
share cents total kw = cond (eqb total 0) 0 (kw * cents / total)

-- Credit, of one row; one not considered has no bonus, and so no credit
unfoldable pub credit : Assessed → ChargedRow → ℕ
credit v c = share (pool v) (total_bonus v) c.figures.bonus

-- credits: the sum over an interval's rows
unfoldable pub credits : Assessed → ℕ
credits v = sum (credit v) v.rows

-- Carried: the rest of the pool, which is all of it with no bonus
unfoldable pub carried_on : Assessed → ℕ
carried_on v = pool v - credits v
