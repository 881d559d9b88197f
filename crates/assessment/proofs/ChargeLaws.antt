-- A row that is not considered: its figures, its charge and its credit are 0.
use Prim.Native.Nat.{ℕ}
use mathlib.Core.Path.{◌≡◌, ap, ◌∙◌}
use mathlib.Core.List.{List}
use mathlib.Core.Bool.{false}
use native.Mathlib.Omega.{arith}
use Rattle.reading.specs.Block.{Terms}
use Rattle.reading.specs.Interval.{Row}
use Rattle.assessment.specs.Assessment.{
  considered,
  if_considered,
  Ratio,
  RowFigures,
  row_figures,
  Account,
  account_of,
  raised,
  divisors,
  full_charge,
  charge,
  charged_row,
  Assessed,
  total_bonus,
  pool,
  share,
  credit,
}
use Rattle.assessment.proofs.Limits.{least_divisors, charge_over_none}
use Rattle.assessment.proofs.Shares.{share_zero}

-- figures that are all 0
abbrev pub no_figures : RowFigures
no_figures = record { expected = 0; actual = 0; outage = 0; economic = 0; shortfall = 0; bonus = 0 }

-- without a shortfall there is no charge
pub no_charge : (t : Terms) (a : Account) → charge t a 0 ≡ 0
unfolding charge full_charge
no_charge t a = omega (arith, charge_over_none (divisors t).charge t (omega (arith, (least_divisors t).1)))

module _ (region_wide : ℕ) (q : Ratio) (r : Row) (out : considered region_wide r ≡ false) where
  -- a row that is not considered has no figures
  pub not_considered_figures : row_figures region_wide q r ≡ no_figures
  unfolding row_figures if_considered
  not_considered_figures = rw out

  -- it is charged nothing
  pub not_considered_charge : (t : Terms) (accounts : List Account) → (charged_row t accounts region_wide q r).charge ≡ 0
  unfolding charged_row
  not_considered_charge t accounts =
      let a = raised r.committed (account_of r.id accounts) in
      ap (λ f. charge t a f.shortfall) not_considered_figures ∙ no_charge t a

  -- and it is credited nothing
  pub not_considered_credit : (t : Terms) (accounts : List Account) (v : Assessed)
      → credit v (charged_row t accounts region_wide q r) ≡ 0
  unfolding credit charged_row
  not_considered_credit t accounts v =
      ap (λ f. share (pool v) (total_bonus v) f.bonus) not_considered_figures ∙ share_zero (pool v) (total_bonus v)
