-- What is claimed of the rules beside their figures.
use Rattle.std.specs.Prelude.{ℕ, ◌-◌, ◌*◌, ◌≤◌, min, max, ◌≡◌, cond, length, eqb}
use Rattle.reading.specs.Block.{Terms, transition_year}
use Rattle.reading.specs.Interval.{Row}
use Rattle.assessment.specs.Assessment.{actual, bonus_cut, Ratio, expected, available, economic_rule, limit}

-- Economic, if its rule took what bonus is cut to
unfoldable pub economic_by_cut : Row → ℕ → ℕ
economic_by_cut r expect = min r.maximum (min expect (available r)) - max (bonus_cut r) (actual r)

-- at any ratio that gives the same kW where a row has one schedule or none, as each of format 1 has:
-- no word of its result shows which of the two the economic rule takes
unfoldable pub SameEconomic : Type 0
SameEconomic =
    (q : Ratio) (r : Row) → length r.schedules ≤ 1 → economic_by_cut r (expected q r) ≡ economic_rule r (expected q r)

-- the tariff's part of Net CONE, in hundredths: 0.75 for 2016, 1.5 for other years
unfoldable pub hundredths : Terms → ℕ
hundredths t = cond (eqb t.year transition_year) 75 150

-- so many cents are at most that part of Net CONE times days times the MW of a commitment, 1000 kW to the MW
unfoldable pub WithinTariff : Terms → ℕ → ℕ → Type 0
WithinTariff t kw cents = 100 * (1000 * cents) ≤ hundredths t * (t.net_cone * t.days * kw)

-- The limit is the most whole cents that the tariff allows
unfoldable pub LimitOfTariff : Type 0
LimitOfTariff =
    (t : Terms) (kw cents : ℕ)
    → (cents ≤ limit t kw → WithinTariff t kw cents) × (WithinTariff t kw cents → cents ≤ limit t kw)
