-- What the values of the code say, as the records that the definitions speak of;
-- and the most cents of a charge.
use Rattle.std.specs.Prelude.{◌≡◌, ℕ, ◌+◌, ◌-◌, ◌*◌, ◌<◌, List, true, false, drop, ℤ}
use Rattle.std.specs.Int.Signed.{le_z}
use Rattle.reading.specs.Block.{Terms, most_net_cone, leap_year}
use Rattle.reading.specs.Interval.{most_kilowatts, point_bytes, point_at, points_in, Row, row_of}
use Rattle.reading.specs.Values.{row_in}
use Rattle.reading.specs.declared.sound.SoundRow.{SoundRow as SoundRowValue}
use Rattle.assessment.specs.Assessment.{from_last_reached, Ratio, RowFigures, Account, full_charge}
use Rattle.assessment.specs.declared.ratio.Ratio.{Ratio as RatioValue}
use Rattle.assessment.specs.declared.row.Figures.{Figures as FiguresValue}
use Rattle.assessment.specs.declared.account.Account.{Account as AccountValue}

-- the row of a file that a value says
abbrev pub row_said : SoundRowValue → Row
row_said r = row_of r.file.bytes.now (row_in r.words)

-- the ratio that a value says
unfoldable pub ratio_in : RatioValue → Ratio
ratio_in q = record { numerator = q.numerator.0; denominator = q.denominator.0 }

-- the figures of a row that a value says
unfoldable pub figures_in : FiguresValue → RowFigures
figures_in f = record {
  expected = f.expected.0;
  actual = f.actual.0;
  outage = f.outage.0;
  economic = f.economic.0;
  shortfall = f.shortfall.0;
  bonus = f.bonus.0;
}

-- the account that a value says
unfoldable pub account_in : AccountValue → Account
account_in a = record { id = a.id; largest = a.largest.0; charged = a.charged.0; credited = a.credited.0 }

-- of the n points that a stretch of bytes starts with, point i is the last one priced at or below the LMP:
-- the curve from the last one reached on is what starts there, and the next one is not reached
pub record LastReached (lmp : ℤ) (n : ℕ) (b : List ℕ) (i : ℕ) : Type 0 where
  pub among : i < n
  pub rest : from_last_reached lmp (points_in n b) ≡ points_in (n - i) (drop (point_bytes * i) b)
  pub reached : le_z (point_at b i).price lmp ≡ true
  pub next_not_reached : i + 1 < n → le_z (point_at b (i + 1)).price lmp ≡ false

-- the highest terms
abbrev pub highest_terms : Terms
highest_terms = record { net_cone = most_net_cone; days = leap_year; year = 0 }

-- the most cents of a charge: for the most kW, on the highest terms
abbrev pub most_charge : ℕ
most_charge = full_charge highest_terms most_kilowatts
