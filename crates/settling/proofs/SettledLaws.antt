-- The interval that an accepted file makes of a ledger: its rows, and how much its charges and bonuses are at most.
use Prim.Native.Nat.{ℕ, ◌+◌, ◌-◌, ◌*◌, ◌≤◌, ◌<◌}
use mathlib.Core.Path.{◌≡◌, refl, sym, ap, ap₂, ◌∙◌, subst}
use mathlib.Core.List.Memᴰ
use mathlib.Core.List.{List, [], ◌∷◌, map, Memᴰ}
use mathlib.Core.Bool.{Bool, true, false}
use native.Mathlib.Omega.{arith}
use borrow.Author.Tests.{ltb-true, ltb-false, lt-ltb, le-ltb}
use lib.ListN.{length, length-map}
use lib.Dec.{ltb}
use Rattle.words.proofs.Lists.{sum_most}
use Rattle.reading.specs.Block.{terms_outside}
use Rattle.reading.specs.Interval.{most_rows, Row, header_of, rows_of}
use Rattle.reading.specs.Values.{header_in, terms_in}
use Rattle.reading.specs.declared.header.Header.{Header as HeaderValue}
use Rattle.reading.proofs.Bounds.{TermsIn, terms_in_lem, RowIn}
use Rattle.reading.proofs.Facts.{length_tabled}
use Rattle.reading.proofs.RowsLeft.{rows_left, rows_start, rows_turn, rows_end}
use Rattle.reading.proofs.SoundRows.{rows_sound}
use Rattle.assessment.specs.Assessment.{
  most_cents,
  most_actual,
  ratio_of,
  ChargedRow,
  charged_row,
  Assessed,
  assessed,
  charges,
  total_bonus,
  pool,
  credits,
  carried_on,
}
use Rattle.assessment.specs.Values.{most_charge}
use Rattle.assessment.proofs.Promises.{FiguresIn, figures_in_lem}
use Rattle.assessment.proofs.Limits.{charge_most}
use Rattle.ledger.specs.Ledger.{ledger_of}
use Rattle.ledger.specs.declared.layout.Standing.{Standing as StandingValue}
use Rattle.ledger.proofs.Sound.{said}
use Rattle.settling.specs.Settling.{assessed_file, pool_too_large}
use Rattle.settling.specs.Values.{Passed}
use Rattle.settling.proofs.Turns.{row_at}

-- the interval that a file makes of a ledger
module _ (ledger file : List ℕ) where
  -- a row, charged to its account in the ledger
  unfoldable pub charged_of : Row → ChargedRow
  charged_of =
      let l = ledger_of ledger in
      charged_row l.terms l.accounts (header_of file).region_wide (ratio_of (header_of file) (rows_of file))

  -- row i of the file, charged
  abbrev pub charged_at : ℕ → ChargedRow
  charged_at i = charged_of (row_at file i)

  -- the charged rows from i on
  abbrev pub charged_left : ℕ → List ChargedRow
  charged_left i = map charged_of (rows_left file i)

  -- the interval's rows are the file's, each charged to its account
  pub rows_are : (assessed_file ledger file).rows ≡ map charged_of (rows_of file)
  unfolding assessed_file assessed charged_of
  rows_are = refl

  -- so before any row is charged, all of them are left
  pub charged_start : (assessed_file ledger file).rows ≡ charged_left 0
  charged_start = rows_are ∙ ap (map charged_of) (rows_start file)

  -- below the number of rows, those from i on are row i and those from i + 1 on
  pub charged_turn : (i : ℕ) → i < (header_of file).row_count → charged_left i ≡ charged_at i ∷ charged_left (i + 1)
  charged_turn i on = ap (map charged_of) (rows_turn file i on)

  -- from the number of rows on, none is left
  pub charged_end : (i : ℕ) → (header_of file).row_count ≤ i → charged_left i ≡ []
  charged_end i end = ap (map charged_of) (rows_end file i end)

-- what a charged row is at most
pub record Bounded (c : ChargedRow) : Type 0 where
  pub figures : FiguresIn c.figures
  pub charge : c.charge ≤ most_charge

-- a ledger and a file that grounds 6 to 14 do not refuse
module _ {ledger file : List ℕ} {s : StandingValue} {h : HeaderValue} (p : Passed ledger s file h) where
  -- the interval that the file makes of the ledger
  abbrev v : Assessed
  v = assessed_file ledger file

  -- the interval has as many rows as the header that was read says
  pub rows_count : length v.rows ≡ h.rows
  rows_count =
      ap length (rows_are ledger file) ∙ length-map (rows_of file) (charged_of ledger file) ∙ length_tabled p.tabled

  -- the terms that were read are the ledger's
  pub terms_are : terms_in s.terms ≡ (ledger_of ledger).terms
  terms_are = (said ledger s p.ledger_read.says).terms

  -- they keep their bounds
  pub terms_within : TermsIn (ledger_of ledger).terms
  terms_within =
      terms_in_lem (ledger_of ledger).terms (subst (λ t. terms_outside t ≡ false) terms_are p.ledger_read.terms)

  -- the region-wide word that was read is the header's
  pub region_is : h.region_wide ≡ (header_of file).region_wide
  unfolding header_in
  region_is = ap (λ h. h.region_wide) p.tabled.read.says

  -- a row that keeps its bounds has figures and a charge within theirs
  pub charged_bounded : (r : Row) → RowIn r → Bounded (charged_of ledger file r)
  unfolding charged_of charged_row
  charged_bounded r i =
      let figures = figures_in_lem (header_of file).region_wide (ratio_of (header_of file) (rows_of file)) r i in
      record { figures = figures; charge = charge_most _ _ _ terms_within figures.shortfall }

  -- so it is of each row of the interval
  row_bounded : (c : ChargedRow) → Memᴰ c v.rows → Bounded c
  unfolding assessed_file assessed charged_of
  row_bounded c m =
      let (r, at, e) = Memᴰ.of_map (charged_of ledger file) (rows_of file) m in
      subst Bounded e (charged_bounded r (rows_sound p.scanned r at))

  -- there are no more than the most rows
  rows_few : length v.rows ≤ most_rows
  rows_few = omega (arith, rows_count, p.tabled.rows_few)

  -- the charges are no more than the largest for each of the most rows
  pub charges_fit : charges v ≤ most_rows * most_charge
  unfolding charges
  charges_fit = sum_most (λ c. c.charge) most_charge most_rows v.rows rows_few (λ c m. (row_bounded c m).charge)

  -- the total bonus is no more than the most actual kW for each of the most rows
  pub bonus_fits : total_bonus v ≤ most_rows * most_actual
  unfolding total_bonus
  bonus_fits =
      sum_most (λ c. c.figures.bonus) most_actual most_rows v.rows rows_few (λ c m. (row_bounded c m).figures.bonus)

  -- the cents carried and the charges are the pool
  pub pool_of : {cents : ℕ} → cents ≡ charges v → s.carried.0 + cents ≡ pool v
  unfolding pool assessed_file assessed
  pool_of e = ap₂ ◌+◌ (said ledger s p.ledger_read.says).carried e

  -- so what the code adds up is the pool
  pub pool_made : {cents cash : ℕ} → cents ≡ charges v → cash ≡ s.carried.0 + cents → cash ≡ pool v
  pool_made e sum = sum ∙ pool_of e

  -- and what it leaves without the credits is carried on
  pub rest_made : {cash given rest : ℕ} → cash ≡ pool v → given ≡ credits v → rest ≡ cash - given → rest ≡ carried_on v
  unfolding carried_on
  rest_made pool_is given_is left = left ∙ ap₂ ◌-◌ pool_is given_is

  -- what the cents carried leave room for
  abbrev room : ℕ
  room = most_cents - s.carried.0

  -- so it is too large just where the charges are above that
  pub pool_test : {cents : ℕ} → cents ≡ charges v → ltb room cents ≡ pool_too_large v
  unfolding pool_too_large
  pool_test {cents} e = by (ltb room cents) refl
    where
      by : (t : Bool) → ltb room cents ≡ t → t ≡ ltb most_cents (pool v)
      by true above = sym (lt-ltb most_cents (pool v) (omega (arith, ltb-true room cents above, pool_of e)))
      by false below =
          sym (le-ltb most_cents (pool v) (omega (arith, ltb-false room cents below, pool_of e, p.ledger_read.carried)))

  -- and it is not where that is no less than the most charges of a file
  pub pool_fits : ltb room (most_rows * most_charge) ≡ false → pool_too_large v ≡ false
  unfolding pool_too_large
  pool_fits most =
      let enough = ltb-false room (most_rows * most_charge) most in
      le-ltb most_cents (pool v) (omega (arith, enough, pool_of refl, charges_fit, p.ledger_read.carried))
