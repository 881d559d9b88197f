-- The row ids of a file rise, so a plant has at most one row in it, and its charges stay under its limit.
use Prim.Native.Nat.{ℕ, ◌+◌, ◌-◌, ◌≤◌, max}
use mathlib.Core.Path.{◌≡◌, refl}
use mathlib.Core.List.{List, [], ◌∷◌, map}
use mathlib.Core.Bool.{Bool, true, false, cond}
use native.Mathlib.Nat.{le-max_left}
use native.Mathlib.Omega.{arith}
use lib.Dec.{eqb}
use borrow.Author.Tests.{eqb-true, ne_eqb}
use Rattle.words.specs.Lists.{sum, rises_above, rises}
use Rattle.words.proofs.Lists.{rises_next, rises_rest}
use Rattle.reading.specs.Block.{Terms}
use Rattle.reading.specs.Interval.{Row}
use Rattle.assessment.specs.Assessment.{Ratio, row_figures, Account, account_of, limit, charged_row, Assessed}
use Rattle.assessment.proofs.Limits.{limit_rises, charge_le}
use Rattle.year.specs.Year.{GivenRow, sum_of_plant, largest_of_plant}
use Rattle.year.proofs.Given.{given_of}

module _ (v : Assessed) (t : Terms) (accounts : List Account) (region_wide : ℕ) (q : Ratio) where
  -- what the rows are given
  abbrev given : List Row → List GivenRow
  given rs = map (given_of v) (map (charged_row t accounts region_wide q) rs)

  -- rows that come after an id are charged nothing for it
  none_later : (i last : ℕ) (rs : List Row) → rises_above last (map (λ r. r.id) rs) ≡ true → i ≤ last
      → sum_of_plant i (λ g. g.charge) (given rs) ≡ 0
  unfolding sum_of_plant sum given_of charged_row
  none_later i last [] e h = refl
  none_later i last (r ∷ rs) e h =
      let up = rises_next last r.id (map (λ r. r.id) rs) e in
      let other : eqb r.id i ≡ false = ne_eqb r.id i (λ q. omega arith) in
      rw other (omega (arith, none_later i r.id rs up.1 (omega arith)))

  -- a row's charge is at most what is left under its account's limit
  row_charge_le : (r : Row) → let a = account_of r.id accounts in
      (charged_row t accounts region_wide q r).charge ≤ limit t (max a.largest r.committed) - a.charged
  unfolding charged_row
  row_charge_le r = charge_le t r.committed (account_of r.id accounts) (row_figures region_wide q r).shortfall

  -- a plant within the limit of its largest commitment stays so after rows whose ids rise
  pub within_limit : (i : ℕ) (rs : List Row) → rises (map (λ r. r.id) rs) ≡ true
      → let a = account_of i accounts in
      a.charged ≤ limit t a.largest → a.charged + sum_of_plant i (λ g. g.charge) (given rs)
      ≤ limit t (max a.largest (largest_of_plant i (given rs)))
  unfolding rises sum_of_plant sum largest_of_plant given_of charged_row
  within_limit i [] e h = omega (arith, limit_rises t (le-max_left (account_of i accounts).largest 0))
  within_limit i (r ∷ rs) e h = by (eqb r.id i) refl (within_limit i rs (rises_rest r.id (map (λ r. r.id) rs) e))
    where
      a : Account
      a = account_of i accounts

      most : ℕ → ℕ
      most kw = limit t (max a.largest kw)

      fee : ℕ
      fee = (charged_row t accounts region_wide q r).charge

      kw : ℕ
      kw = largest_of_plant i (given rs)

      rises_to : (j k : ℕ) → max a.largest j ≤ max a.largest k → most j ≤ most k
      rises_to j k p = limit_rises t p

      cut : r.id ≡ i → fee ≤ most r.committed - a.charged
      cut q = rw (← q) (row_charge_le r)

      by : (b : Bool) → eqb r.id i ≡ b
          → (a.charged ≤ limit t a.largest → a.charged + sum_of_plant i (λ g. g.charge) (given rs) ≤ most kw)
          → a.charged + (cond b fee 0 + sum_of_plant i (λ g. g.charge) (given rs))
          ≤ most (max (cond b r.committed 0) kw)
      by true p below =
          let same = eqb-true r.id i p in
          let rest = none_later i r.id rs e (omega arith) in
          omega (
            arith,
            rest,
            cut same,
            h,
            limit_rises t (le-max_left a.largest r.committed),
            rises_to r.committed (max r.committed kw) (omega arith),
          )
      by false p below = omega (arith, below h, rises_to kw (max 0 kw) (omega arith))
