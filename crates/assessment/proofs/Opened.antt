-- Definitions that a function's proofs open together: an attribute `unfolding` names one of these sets.
use Prim.Native.Nat.{ℕ}
use Rattle.reading.specs.Interval.{kind_of, schedule_of, row_with, row_of}
use Rattle.reading.specs.Values.{terms_in, header_in, row_in, schedule_in, point_in}
use Rattle.assessment.specs.Assessment.{
  actual,
  along_curve,
  available,
  import_share,
  considered_as,
  considered,
  if_considered,
  expected_as,
  expected,
  bonus_actual_as,
  bonus,
  numerator_share_as,
  numerator_share,
  denominator_share_as,
  denominator_share,
  outage_as,
  outage,
  economic_as,
  economic,
  shortfall,
  row_figures,
  divisors,
  limit_over,
  limit,
  charge_over,
  full_charge,
}
use Rattle.assessment.specs.Values.{figures_in}

-- a row of a file, by its words
unfoldable pub row_words : ℕ
unfolding row_of row_with row_in
row_words = 0

-- and by the words of its schedules
unfoldable pub schedules : ℕ
unfolding row_words schedule_of schedule_in
schedules = 0

-- the points along a curve
unfoldable pub points_along : ℕ
unfolding point_in along_curve
points_along = 0

-- actual, and what is available
unfoldable pub actual_rule : ℕ
unfolding row_words actual
actual_rule = 0

unfoldable pub available_rule : ℕ
unfolding row_words available
available_rule = 0

-- what net imports add to the numerator
unfoldable pub import_rule : ℕ
unfolding header_in import_share
import_rule = 0

-- what the kind of a row chooses
unfoldable pub by_kind : ℕ
unfolding row_words kind_of considered_as considered if_considered expected_as expected bonus_actual_as bonus numerator_share_as numerator_share denominator_share_as denominator_share outage_as outage economic_as economic shortfall row_figures figures_in
by_kind = 0

-- what the year of the terms chooses
unfoldable pub by_year : ℕ
unfolding terms_in divisors limit_over limit charge_over full_charge
by_year = 0
