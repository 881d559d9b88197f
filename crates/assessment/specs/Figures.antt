-- Worked figures of the rules: what the definitions give, beside what it must be.
use Rattle.std.specs.Prelude.{ℕ, suc, List, [], ◌∷◌, ℤ, pos, negsuc}
use Rattle.words.specs.Figures.{Figure, ◌gives◌, AllAsStated, test}
use Rattle.reading.specs.Block.{Terms}
use Rattle.reading.specs.Interval.{market, price_based, cost, Point, Schedule, Row}
use Rattle.reading.specs.Figures.{header_with, at}
use Rattle.assessment.specs.Assessment.{
  Ratio,
  RowFigures,
  Account,
  ChargedRow,
  Assessed,
  actual,
  from_last_reached,
  first_kw,
  scheduled,
  bonus_cut,
  economic_scheduled,
  considered,
  expected,
  bonus,
  numerator_share,
  numerator,
  denominator,
  ratio_of,
  printed_ratio,
  outage,
  available,
  economic,
  row_figures,
  raised,
  added,
  limit,
  full_charge,
  charge,
  charged_row,
  assessed,
  total_bonus,
  pool,
  credit,
  credits,
  carried_on,
}
use Rattle.assessment.specs.Values.{most_charge}

-- points are one market schedule, and no points no schedule
abbrev pub market_offer : List Point → List Schedule
market_offer [] = []
market_offer (p ∷ ps) = record { kind = market; curve = p ∷ ps } ∷ []

-- a row of id 1: kind, committed, owned, metered, adjustment, planned, forced, maximum, minimum, online, LMP
-- and the points of its market offer
abbrev pub adjusted : ℕ → ℕ → ℕ → ℤ → ℤ → ℕ → ℕ → ℕ → ℕ → ℕ → ℤ → List Point → Row
adjusted kind committed owned metered adjustment planned forced maximum minimum online lmp curve = record {
  id = 1;
  kind = kind;
  committed = committed;
  owned = owned;
  metered = metered;
  adjustment = adjustment;
  planned = planned;
  forced = forced;
  maximum = maximum;
  minimum = minimum;
  online = online;
  lmp = lmp;
  schedules = market_offer curve;
  dispatched = 0;
}

-- a row without adjustment
abbrev pub row : ℕ → ℕ → ℕ → ℤ → ℕ → ℕ → ℕ → ℕ → ℕ → ℤ → List Point → Row
row kind committed owned metered planned forced maximum minimum online lmp curve =
    adjusted kind committed owned metered (pos 0) planned forced maximum minimum online lmp curve

-- curve A
unfoldable pub curve_a : List Point
curve_a = at (pos 1000) 20000 ∷ at (pos 5000) 100000 ∷ []

-- a generator on curve A, with its limits
unfoldable pub on_a : ℕ → ℤ → Row
on_a online lmp = row 0 0 0 (pos 0) 0 0 110000 20000 online lmp curve_a

-- PRD with points (500, 0) and (2000, 3000)
unfoldable pub prd : ℤ → Row
prd lmp = row 3 3000 0 (pos 0) 0 0 0 0 0 lmp (at (pos 500) 0 ∷ at (pos 2000) 3000 ∷ [])

-- a demand resource with a bonus, charged nothing
unfoldable pub with_bonus : ℕ → ChargedRow
with_bonus kw = record {
  row = row 1 0 0 (pos kw) 0 0 0 0 0 (pos 0) [];
  figures = record { expected = 0; actual = kw; outage = 0; economic = 0; shortfall = 0; bonus = kw };
  charge = 0;
}

-- a pool of 557628 cents over bonuses of 30000 and 10001 kW
unfoldable pub shared : Assessed
shared = record {
  ratio = record { numerator = 0; denominator = 0 };
  rows = with_bonus 30000 ∷ with_bonus 10001 ∷ [];
  carried = 557628;
}

-- an account with a largest commitment and cents charged
abbrev pub account : ℕ → ℕ → Account
account largest charged = record { id = 1; largest = largest; charged = charged; credited = 0 }

-- a year of 365 days at a Net CONE
abbrev pub terms : ℕ → Terms
terms net_cone = record { net_cone = net_cone; days = 365; year = 0 }

-- a calendar year of 365 days at a Net CONE
abbrev pub terms_of : ℕ → ℕ → Terms
terms_of year net_cone = record { net_cone = net_cone; days = 365; year = year }

-- a ratio
abbrev pub over : ℕ → ℕ → Ratio
over n d = record { numerator = n; denominator = d }

-- the figures that document 01 marks (P), in its order; those at Net CONE 1 are document 02's (N7)
unfoldable pub proved_figures : List Figure
proved_figures =
    scheduled (on_a 1 (pos 999)) gives 20000
    ∷ scheduled (on_a 1 (pos 3001)) gives 60020
    ∷ scheduled (on_a 1 (pos 5000)) gives 100000
    ∷ scheduled (on_a 1 (pos 5001)) gives 110000
    ∷ scheduled (on_a 0 (pos 999)) gives 0
    ∷ scheduled (row 0 0 0 (pos 0) 0 0 10 0 1 (negsuc 298) (at (negsuc 299) 0 ∷ at (negsuc 292) 10 ∷ [])) gives 1
    ∷ test (considered 0 (prd (pos 1999))) gives 0
    ∷ test (considered 0 (prd (pos 2000))) gives 1
    ∷ charge (terms 1) (account 4000000 0) 493 gives 0
    ∷ charge (terms 1) (account 4000000 0) 494 gives 1
    ∷ limit (terms 30000) 1 gives 16425
    ∷ charge (terms 30000) (account 1 16400) 1 gives 25
    ∷ full_charge (terms 30000) 1 gives 30
    ∷ pool shared gives 557628
    ∷ credit shared (with_bonus 30000) gives 418210
    ∷ credit shared (with_bonus 10001) gives 139417
    ∷ carried_on shared gives 1
    ∷ expected (over 130001 150000) (row 0 100000 0 (pos 0) 0 0 0 0 0 (pos 0) []) gives 86667
    ∷ []

-- the claim over all of them
unfoldable pub ProvedFigures : Type 0
ProvedFigures = AllAsStated proved_figures

-- row 11 of document 01's listing, with the words that the assessment reads
unfoldable pub row11 : Row
row11 = row 0 100000 110000 (pos 60000) 10000 0 110000 20000 1 (pos 3000) curve_a

-- row 12
unfoldable pub row12 : Row
row12 =
    adjusted 0 50000 60000 (pos 20000) (pos 5000) 0 35000 25000 10000 1 (pos 6001)
    (at (pos 1000) 10000 ∷ at (pos 6000) 50000 ∷ [])

-- row 13
unfoldable pub row13 : Row
row13 = row 4 0 40000 (pos 35000) 0 0 40000 0 1 (pos 3000) (at (pos 0) 0 ∷ at (pos 4000) 40000 ∷ [])

-- row 14
unfoldable pub row14 : Row
row14 = row 1 5000 0 (pos 15001) 0 0 0 0 0 (pos 0) []

-- the rows of the listing
unfoldable pub listing_rows : List Row
listing_rows = row11 ∷ row12 ∷ row13 ∷ row14 ∷ []

-- a row on curve A, scheduled to 60000 kW: kind, owned, metered, planned, forced and maximum
abbrev pub at60 : ℕ → ℕ → ℤ → ℕ → ℕ → ℕ → Row
at60 kind owned metered planned forced maximum =
    row kind 100000 owned metered planned forced maximum 20000 1 (pos 3000) curve_a

-- a row without points that gave 35000 kW: kind, committed, owned, planned, forced and maximum
abbrev pub without_curve : ℕ → ℕ → ℕ → ℕ → ℕ → ℕ → Row
without_curve kind committed owned planned forced maximum =
    row kind committed owned (pos 35000) planned forced maximum 0 1 (pos 3000) []

-- committed 100000 at ratio 1, owned 110000, forced 30000, maximum 110000, scheduled 60000, actual 50000
unfoldable pub with_forced : RowFigures
with_forced = row_figures 0 (over 1 1) (at60 0 110000 (pos 50000) 0 30000 110000)

-- the same with its outage planned, and so many kW owned
unfoldable pub with_planned : ℕ → RowFigures
with_planned owned = row_figures 0 (over 1 1) (at60 0 owned (pos 50000) 30000 0 110000)

-- a row of a kind with a commitment, and nothing else
abbrev pub on_kind : ℕ → ℕ → Row
on_kind kind committed = row kind committed 0 (pos 0) 0 0 0 0 0 (pos 0) []

-- one row of each kind from 0 to 5
unfoldable pub each_kind : List Row
each_kind = on_kind 0 1 ∷ on_kind 1 10 ∷ on_kind 2 100 ∷ on_kind 3 1000 ∷ on_kind 4 10000 ∷ on_kind 5 100000 ∷ []

-- an importer that metered so many kW, with an adjustment, with outages and a curve that ends at 0 kW
unfoldable pub importing : ℤ → ℤ → Row
importing metered adjustment = adjusted 5 0 50000 metered adjustment 7 5 50000 0 1 (pos 3000) (at (pos 3000) 0 ∷ [])

-- the figures of one that imported 10000 kW less 2000, in an event
unfoldable pub imported : ℕ → RowFigures
imported region_wide = row_figures region_wide (over 1 1) (importing (pos 10000) (negsuc 1999))

-- an importer of 30000 kW and a demand resource with a bonus of 10001, with 557628 cents carried into an event
unfoldable pub shared_with_importer : ℕ → Assessed
shared_with_importer region_wide =
    assessed (terms 30000) [] 557628 (header_with 1000 365 region_wide (pos 0))
    (importing (pos 30000) (pos 0) ∷ row14 ∷ [])

-- the importer of these, charged nothing
unfoldable pub importer_of : ℕ → ChargedRow
importer_of region_wide = charged_row (terms 30000) [] region_wide (over 0 0) (importing (pos 30000) (pos 0))

-- a row with these schedules, dispatched on one of them, counted from 0
abbrev pub offering : List Schedule → ℕ → Row → Row
offering schedules dispatched r = record {
  id = r.id;
  kind = r.kind;
  committed = r.committed;
  owned = r.owned;
  metered = r.metered;
  adjustment = r.adjustment;
  planned = r.planned;
  forced = r.forced;
  maximum = r.maximum;
  minimum = r.minimum;
  online = r.online;
  lmp = r.lmp;
  schedules = schedules;
  dispatched = dispatched;
}

-- a schedule of a kind by which so many kW are scheduled at an LMP of 3000
abbrev pub giving : ℕ → ℕ → Schedule
giving kind kw = record { kind = kind; curve = at (pos 3000) kw ∷ [] }

-- one schedule of each kind, by which so many kW are scheduled: market, PLS and cost
abbrev pub of_each : ℕ → ℕ → ℕ → List Schedule
of_each byMarket byPLS byCost = giving market byMarket ∷ giving price_based byPLS ∷ giving cost byCost ∷ []

-- a market offer above the cost one: fewer kW are scheduled by it
abbrev pub market_above_cost : List Schedule
market_above_cost = giving market 60000 ∷ giving cost 90000 ∷ []

-- a row of a kind at that LMP that committed 100000 kW, owns 110000 and metered so many, with schedules
abbrev pub unit : ℕ → ℤ → List Schedule → ℕ → Row
unit kind metered schedules dispatched =
    offering schedules dispatched (row kind 100000 110000 metered 0 0 110000 0 1 (pos 3000) [])

-- a row with a market schedule from 2000 cents on and a cost schedule on curve A, at an LMP of 1500, online or not
abbrev pub market_later : ℕ → ℕ → Row
market_later online dispatched =
    offering
    (record { kind = market; curve = at (pos 2000) 30000 ∷ at (pos 6000) 90000 ∷ [] }
    ∷ record { kind = cost; curve = curve_a }
    ∷ [])
    dispatched
    (row 0 0 0 (pos 0) 0 0 110000 20000 online (pos 1500) [])

-- PRD of which one schedule ends at 0 kW and the other at 3000
abbrev pub prd_of_two : ℕ → Row
prd_of_two dispatched = offering (giving market 0 ∷ giving cost 3000 ∷ []) dispatched (prd (pos 3000))

-- a pool of 557628 cents and no bonus
unfoldable pub unshared : Assessed
unshared = record { ratio = over 0 0; rows = with_bonus 0 ∷ []; carried = 557628 }

-- a PRD row of 3000 kW with one point at 500 cents, of which the LMP and the metered kW are given,
-- charged at 30000 cents
unfoldable pub one_point : ℤ → ℤ → ChargedRow
one_point lmp metered =
    charged_row (terms 30000) (account 3000 0 ∷ []) 0 (over 1 1)
    (row 3 3000 0 metered 0 0 0 0 0 lmp (at (pos 500) 5 ∷ []))

-- a demand resource 1 kW short of a commitment,
-- charged at 30000 cents to an account with a largest commitment and 16400 cents charged
unfoldable pub one_short : ℕ → ℕ → ChargedRow
one_short committed largest =
    charged_row (terms 30000) (account largest 16400 ∷ []) 0 (over 1 1)
    (row 1 (suc committed) 0 (pos committed) 0 0 0 0 0 (pos 0) [])

-- figures that tell each rule from the wrong ones nearest to it, in document 01's order
unfoldable pub worked_figures : List Figure
worked_figures =
    -- actual: a sum of signed numbers, and 0 if that is negative
    actual (adjusted 0 0 0 (negsuc 2999) (pos 5000) 0 0 0 0 0 (pos 0) []) gives 2000
    ∷ actual (adjusted 0 0 0 (negsuc 4) (pos 2) 0 0 0 0 0 (pos 0) []) gives 0
    ∷ actual row12 gives 25000
    -- scheduled: with no points the committed kW, neither raised nor cut
    ∷ scheduled (row 0 7 0 (pos 0) 0 0 5 0 1 (pos 0) []) gives 7
    -- of equal prices the last; and the last point at or below the LMP wherever it stands
    ∷ scheduled (row 0 0 0 (pos 0) 0 0 90 0 0 (pos 10) (at (pos 10) 1 ∷ at (pos 10) 3 ∷ at (pos 20) 13 ∷ [])) gives 3
    ∷ first_kw (from_last_reached (pos 25) (at (pos 10) 1 ∷ at (pos 30) 2 ∷ at (pos 20) 3 ∷ at (pos 40) 4 ∷ [])) gives 3
    -- the way to the next point is rounded down (not to the nearest, 7), and once (4 by way of the slope)
    ∷ scheduled (row 0 0 0 (pos 0) 0 0 90 0 0 (pos 2) (at (pos 0) 0 ∷ at (pos 3) 10 ∷ [])) gives 6
    ∷ scheduled (row 0 0 0 (pos 0) 0 0 90 0 0 (pos 2) (at (pos 0) 0 ∷ at (pos 4) 10 ∷ [])) gives 5
    -- offline, a row on its curve is not set to 0; it is not raised to its minimum, but cut to its maximum
    ∷ scheduled (on_a 0 (pos 3001)) gives 60020
    ∷ scheduled (row 0 0 0 (pos 0) 0 0 110000 70000 0 (pos 3001) curve_a) gives 60020
    ∷ scheduled (row 0 0 0 (pos 0) 0 0 110000 70000 1 (pos 3001) curve_a) gives 70000
    ∷ scheduled (row 0 0 0 (pos 0) 0 0 50000 0 0 (pos 3001) curve_a) gives 50000
    -- with points bonus is cut to it, whatever is available, and the economic rule takes it
    ∷ bonus_cut (on_a 1 (pos 3001)) gives 60020
    ∷ bonus_cut (at60 4 110000 (pos 0) 0 0 110000) gives 60000
    ∷ economic_scheduled (on_a 1 (pos 3001)) gives 60020
    -- with no points bonus is cut to what is available: not to the committed kW, and less both outages, at least 0
    ∷ bonus_cut (without_curve 4 0 40000 0 0 40000) gives 40000
    ∷ bonus_cut (without_curve 4 0 40000 10000 5000 40000) gives 25000
    ∷ bonus_cut (without_curve 4 0 40000 30000 20000 40000) gives 0
    -- it is not cut to the emergency maximum, and not raised to the minimum
    ∷ bonus_cut (without_curve 4 0 40000 0 0 100) gives 40000
    ∷ bonus_cut (row 4 0 20000 (pos 0) 0 0 40000 30000 1 (pos 3000) []) gives 20000
    -- the economic rule then takes the committed kW
    ∷ economic_scheduled (without_curve 4 0 40000 0 0 40000) gives 0
    ∷ economic_scheduled (without_curve 0 7 40000 0 0 40000) gives 7
    -- dispatched on market the economic rule takes the highest of all schedules, on PLS that of PLS and cost,
    -- on cost that one's
    ∷ economic_scheduled (unit 0 (pos 0) (of_each 90000 70000 60000) 0) gives 90000
    ∷ economic_scheduled (unit 0 (pos 0) (of_each 90000 70000 60000) 1) gives 70000
    ∷ economic_scheduled (unit 0 (pos 0) (of_each 90000 70000 60000) 2) gives 60000
    -- also where it is not the one dispatched on
    ∷ economic_scheduled (unit 0 (pos 0) (of_each 60000 70000 90000) 0) gives 90000
    ∷ economic_scheduled (unit 0 (pos 0) (of_each 60000 70000 90000) 1) gives 90000
    ∷ economic_scheduled (unit 0 (pos 0) (of_each 60000 90000 70000) 0) gives 90000
    ∷ economic_scheduled (unit 0 (pos 0) (of_each 60000 90000 70000) 2) gives 70000
    -- others of the same kind count too, but on cost
    ∷ economic_scheduled (unit 0 (pos 0) (giving market 60000 ∷ giving market 70000 ∷ []) 0) gives 70000
    ∷ economic_scheduled (unit 0 (pos 0) (giving price_based 60000 ∷ giving price_based 70000 ∷ []) 0) gives 70000
    ∷ economic_scheduled (unit 0 (pos 0) (giving cost 60000 ∷ giving cost 90000 ∷ []) 0) gives 60000
    ∷ economic_scheduled (unit 0 (pos 0) (giving cost 60000 ∷ giving cost 90000 ∷ []) 1) gives 90000
    -- a schedule that stands alone is taken whatever its kind
    ∷ economic_scheduled (unit 0 (pos 0) (giving price_based 60000 ∷ []) 0) gives 60000
    ∷ economic_scheduled (unit 4 (pos 0) (giving cost 60000 ∷ []) 0) gives 60000
    -- bonus is cut by the one dispatched on alone, higher or lower than the others
    ∷ bonus_cut (unit 0 (pos 0) (of_each 60000 70000 90000) 0) gives 60000
    ∷ bonus_cut (unit 0 (pos 0) (of_each 60000 70000 90000) 1) gives 70000
    ∷ bonus_cut (unit 4 (pos 0) (of_each 60000 70000 90000) 2) gives 90000
    ∷ bonus (unit 0 (pos 80000) (of_each 60000 70000 90000) 0) 50000 gives 10000
    -- each schedule goes by the row's LMP, limits and online word: below the first price the minimum, or 0 offline
    ∷ bonus_cut (market_later 1 0) gives 20000
    ∷ bonus_cut (market_later 0 0) gives 0
    ∷ economic_scheduled (market_later 1 0) gives 30000
    ∷ economic_scheduled (market_later 0 0) gives 30000
    ∷ economic_scheduled (market_later 0 1) gives 30000
    -- so a market offer above the cost one excuses no more than that: of 100000 kW expected 10000, not 40000
    ∷ (row_figures 0 (over 1 1) (unit 0 (pos 50000) market_above_cost 0)).economic gives 10000
    ∷ (row_figures 0 (over 1 1) (unit 0 (pos 50000) market_above_cost 0)).shortfall gives 40000
    ∷ (row_figures 0 (over 1 1) (unit 0 (pos 50000) (giving market 60000 ∷ []) 0)).economic gives 40000
    -- PRD goes by the schedule that it was dispatched on
    ∷ test (considered 0 (prd_of_two 0)) gives 0
    ∷ test (considered 0 (prd_of_two 1)) gives 1
    -- kinds 1, 2 and 5 have no use for schedules
    ∷ bonus (unit 1 (pos 120000) (of_each 60000 70000 90000) 0) 100000 gives 20000
    ∷ bonus (unit 2 (pos 120000) (of_each 60000 70000 90000) 0) 100000 gives 20000
    ∷ bonus (unit 5 (pos 120000) (of_each 60000 70000 90000) 0) 0 gives 120000
    ∷ economic (unit 1 (pos 50000) (of_each 60000 70000 90000) 0) 100000 gives 0
    ∷ economic (unit 2 (pos 50000) (of_each 60000 70000 90000) 0) 100000 gives 0
    ∷ economic (unit 5 (pos 50000) (of_each 60000 70000 90000) 0) 100000 gives 0
    ∷ test (considered 0 (unit 1 (pos 0) (of_each 0 0 0) 0)) gives 1
    ∷ test (considered 0 (unit 2 (pos 0) (of_each 0 0 0) 0)) gives 1
    ∷ test (considered 1 (unit 5 (pos 0) (of_each 0 0 0) 0)) gives 1
    -- PRD without points is never considered, and a row is not considered for a region-wide event alone
    ∷ test (considered 0 (row 3 1 0 (pos 0) 0 0 0 0 0 (pos 1000000) [])) gives 0
    ∷ test (considered 1 (prd (pos 1999))) gives 0
    -- a PRD row not considered: words that are 0, and a commitment raised all the same
    ∷ (one_point (pos 499) (pos 1000)).figures.expected gives 0
    ∷ (one_point (pos 499) (pos 1000)).figures.actual gives 0
    ∷ (one_point (pos 499) (pos 1000)).figures.shortfall gives 0
    ∷ (one_point (pos 499) (pos 1000)).charge gives 0
    ∷ (one_point (pos 499) (pos 5000)).figures.bonus gives 0
    ∷ credit shared (one_point (pos 499) (pos 5000)) gives 0
    ∷ (raised (prd (pos 1999)).committed (account 2000 0)).largest gives 3000
    -- what it would be charged and credited if it were
    ∷ (one_point (pos 500) (pos 1000)).charge gives 60833
    ∷ credit shared (one_point (pos 500) (pos 5000)) gives 27880
    -- the ratio touches kind 0 alone: kinds 1, 2 and 3 are expected to give what they committed, kinds 4 and 5 nothing
    ∷ expected (over 1 2) (on_kind 1 1000) gives 1000
    ∷ expected (over 1 2) (on_kind 2 1000) gives 1000
    ∷ expected (over 1 2) (on_kind 3 1000) gives 1000
    ∷ expected (over 1 2) (on_kind 4 1000) gives 0
    ∷ expected (over 1 2) (on_kind 5 1000) gives 0
    -- the bonus of kinds 0 and 4 is cut to the scheduled kW, that of kinds 1, 2 and 3 is not
    ∷ bonus (at60 0 0 (pos 70000) 0 0 110000) 50000 gives 10000
    ∷ bonus (at60 1 0 (pos 70000) 0 0 110000) 50000 gives 20000
    ∷ bonus (at60 2 0 (pos 70000) 0 0 110000) 50000 gives 20000
    ∷ bonus (at60 3 0 (pos 70000) 0 0 110000) 50000 gives 20000
    ∷ bonus (at60 4 0 (pos 70000) 0 0 110000) 0 gives 60000
    -- so a row of kind 4 without points that gave 35000 of 40000 kW has them as bonus, whatever its maximum;
    -- and none if its outages are beyond what it owns
    ∷ bonus (without_curve 4 0 40000 0 0 40000) 0 gives 35000
    ∷ bonus (without_curve 4 0 40000 0 0 100) 0 gives 35000
    ∷ bonus (without_curve 4 0 40000 30000 20000 40000) 0 gives 0
    -- and one of kind 0 only where what is available is above what is expected
    ∷ bonus (without_curve 0 30000 40000 15000 0 40000) 30000 gives 0
    ∷ bonus (without_curve 0 30000 40000 5000 0 40000) 30000 gives 5000
    -- the numerator takes the actual of kinds 0 and 4 uncut, the bonus of kinds 1 and 3, and nothing of kind 2
    ∷ numerator_share 0 (at60 0 0 (pos 70000) 0 0 110000) gives 70000
    ∷ numerator_share 0 (at60 4 0 (pos 70000) 0 0 110000) gives 70000
    ∷ numerator_share 0 row14 gives 10001
    ∷ numerator_share 0 (row 2 1000 0 (pos 5000) 0 0 0 0 0 (pos 0) []) gives 0
    ∷ numerator_share 0 (row 3 3000 0 (pos 5000) 0 0 0 0 0 (pos 2000) (at (pos 2000) 1 ∷ [])) gives 2000
    -- a PRD row not considered adds none
    ∷ numerator_share 0 (row 3 3000 0 (pos 5000) 0 0 0 0 0 (pos 1999) (at (pos 2000) 1 ∷ [])) gives 0
    -- imports count only when region-wide and positive
    ∷ printed_ratio (ratio_of (header_with 1000 365 0 (pos 19999)) listing_rows) gives 866673
    ∷ printed_ratio (ratio_of (header_with 1000 365 1 (pos 19999)) listing_rows) gives 1000000
    ∷ numerator (header_with 1000 365 1 (pos 9)) listing_rows gives 130010
    ∷ numerator (header_with 1000 365 1 (negsuc 9)) listing_rows gives 130001
    -- the denominator takes kind 0 alone
    ∷ denominator each_kind gives 1
    -- the ratio is not rounded before it is multiplied (3466692 by way of millionths)
    ∷ expected (over 130001 150000) (on_kind 0 4000000) gives 3466693
    -- a ratio above 1 counts as 1, and one without a denominator as 0
    ∷ expected (over 3 2) (on_kind 0 100000) gives 100000
    ∷ expected (over 3 0) (on_kind 0 100000) gives 0
    ∷ printed_ratio (over 3 2) gives 1000000
    ∷ printed_ratio (over 3 0) gives 0
    -- outage reads word 6, not word 7, and of kinds 0 and 4 alone
    ∷ outage (at60 0 0 (pos 0) 7 5 110000) gives 7
    ∷ outage (at60 1 0 (pos 0) 7 5 110000) gives 0
    ∷ outage (at60 2 0 (pos 0) 7 5 110000) gives 0
    ∷ outage (at60 3 0 (pos 0) 7 5 110000) gives 0
    ∷ outage (at60 4 0 (pos 0) 7 5 110000) gives 7
    -- forced outage is not excused by the economic rule (40000 if it were), and is in no outage
    ∷ with_forced.economic gives 20000
    ∷ with_forced.outage gives 0
    ∷ with_forced.shortfall gives 30000
    -- planned outage is an outage, is taken off the owned kW (40000 if it were not), and off the shortfall
    ∷ (with_planned 110000).outage gives 30000
    ∷ (with_planned 110000).economic gives 20000
    ∷ (with_planned 110000).shortfall gives 0
    ∷ (with_planned 90000).shortfall gives 20000
    -- available: owned minus both outages, and 0 if that is negative
    ∷ available (at60 0 110000 (pos 0) 7000 5000 110000) gives 98000
    ∷ available (at60 0 20000 (pos 0) 15000 15000 110000) gives 0
    -- economic goes up to the emergency maximum, the expected kW or the owned kW,
    -- and from the greater of scheduled and actual on
    ∷ economic (at60 0 110000 (pos 50000) 0 0 70000) 100000 gives 10000
    ∷ economic (at60 0 110000 (pos 50000) 0 0 110000) 65000 gives 5000
    ∷ economic (at60 0 62000 (pos 50000) 0 0 110000) 100000 gives 2000
    ∷ economic (at60 0 110000 (pos 65000) 0 0 110000) 100000 gives 35000
    ∷ economic (at60 0 20000 (pos 0) 15000 15000 110000) 100000 gives 0
    -- and is of kinds 0 and 4 alone
    ∷ economic (at60 1 110000 (pos 50000) 0 0 110000) 100000 gives 0
    ∷ economic (at60 2 110000 (pos 50000) 0 0 110000) 100000 gives 0
    ∷ economic (at60 3 110000 (pos 50000) 0 0 110000) 100000 gives 0
    ∷ economic (at60 4 110000 (pos 50000) 0 0 110000) 100000 gives 40000
    -- the limit is rounded down (3285 of 2000), and goes by the largest commitment so far, today's or an earlier one
    ∷ limit (terms 1) 3 gives 1
    ∷ charge (terms 30000) (raised 0 (account 1 16400)) 1 gives 25
    ∷ charge (terms 30000) (raised 2 (account 1 16400)) 1 gives 30
    ∷ (one_short 0 1).charge gives 25
    ∷ (one_short 0 2).charge gives 30
    ∷ (one_short 1 1).charge gives 30
    -- a charge is to the nearest cent: exactly half a cent goes up (36.5), less goes down (36.4635),
    -- more goes up (557628.75)
    ∷ full_charge (terms 36) 1000 gives 37
    ∷ full_charge (terms 36) 999 gives 36
    ∷ full_charge (terms 30000) 18333 gives 557629
    -- 2016 has half the charge, rounded once (7604.17 is not half of 30417), and three quarters of Net CONE as limit
    ∷ full_charge (terms_of 2016 30000) 1000 gives 15208
    ∷ full_charge (terms_of 2016 30000) 500 gives 7604
    ∷ limit (terms_of 2016 30000) 1000 gives 8212500
    ∷ full_charge (terms_of 2016 1) 986 gives 0
    ∷ full_charge (terms_of 2016 1) 987 gives 1
    -- half of the rounded charge would be 1 cent where 0.25 cents are due
    ∷ full_charge (terms 1) 494 gives 1
    ∷ full_charge (terms_of 2016 1) 494 gives 0
    ∷ charge (terms_of 2016 30000) (account 1 8200) 1 gives 12
    -- every later year has the divisors of a year that is not named
    ∷ full_charge (terms_of 2018 30000) 1000 gives 30417
    ∷ limit (terms_of 2018 30000) 1000 gives 16425000
    ∷ limit (terms_of 2023 30000) 1000 gives 16425000
    ∷ limit (terms 30000) 1000 gives 16425000
    -- a commitment raises its account only if it is larger, and leaves the sums
    ∷ (raised 2 (account 1 16400)).largest gives 2
    ∷ (raised 1 (account 2 16400)).largest gives 2
    ∷ (raised 2 (account 1 16400)).charged gives 16400
    -- a charge and a credit are added each to its own sum, and leave the largest commitment
    ∷ (added 30 7 (account 1 16400)).charged gives 16430
    ∷ (added 30 7 (account 1 16400)).credited gives 7
    ∷ (added 30 7 (account 1 16400)).largest gives 1
    -- the largest charge: the most kW short, on the highest terms
    ∷ most_charge gives 813333333
    -- an importer in a region-wide event: actual, and bonus without a cut; nothing is expected, and nothing excused
    ∷ (imported 1).actual gives 8000
    ∷ (imported 1).bonus gives 8000
    ∷ (imported 1).expected gives 0
    ∷ (imported 1).outage gives 0
    ∷ (imported 1).economic gives 0
    ∷ (imported 1).shortfall gives 0
    ∷ (row_figures 1 (over 1 1) (importing (pos 2) (negsuc 4))).actual gives 0
    -- in another event it is not considered
    ∷ (imported 0).actual gives 0
    ∷ (imported 0).bonus gives 0
    -- its bonus shares the pool with a demand resource's, and adds nothing to the numerator
    ∷ total_bonus (shared_with_importer 1) gives 40001
    ∷ credit (shared_with_importer 1) (importer_of 1) gives 418210
    ∷ credit (shared_with_importer 1) (with_bonus 10001) gives 139417
    ∷ credits (shared_with_importer 1) gives 557627
    ∷ (shared_with_importer 1).ratio.numerator gives 10001
    ∷ (shared_with_importer 1).ratio.denominator gives 0
    -- in another event it has no share
    ∷ total_bonus (shared_with_importer 0) gives 10001
    ∷ credit (shared_with_importer 0) (importer_of 0) gives 0
    ∷ (shared_with_importer 0).ratio.numerator gives 10001
    -- with no bonus nothing is credited, and the whole pool is carried
    ∷ credits unshared gives 0
    ∷ carried_on unshared gives 557628
    ∷ []

-- the claim over all of them
unfoldable pub WorkedFigures : Type 0
WorkedFigures = AllAsStated worked_figures
