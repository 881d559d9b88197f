-- What the values of the code say, as the records that the definitions speak of;
-- what is known of a ledger once ground 6 is ruled out; and where a walk finds an id.
use Rattle.std.specs.Prelude.{ℕ, suc, ◌*◌, ◌≤◌, ◌≡◌, List, [], ◌∷◌, false, cond, length, eqb}
use Rattle.words.specs.Lists.{any}
use Rattle.reading.specs.Block.{most_ids, terms_outside, ids_out_of_order}
use Rattle.reading.specs.Interval.{intervals_per_day}
use Rattle.reading.specs.Values.{terms_in}
use Rattle.assessment.specs.Assessment.{most_cents}
use Rattle.ledger.specs.Ledger.{Standing, standing_of, ledger_bytes, ledger_of, ids_in, account_outside}
use Rattle.ledger.specs.declared.layout.Standing.{Standing as StandingValue}

-- what a value says that stands before the accounts
unfoldable pub standing_in : StandingValue → Standing
standing_in s =
    record { terms = terms_in s.terms; earliest = s.earliest; carried = s.carried.0; account_count = s.accounts }

-- a value read from a ledger that ground 6 does not refuse
pub record LedgerRead (ledger : List ℕ) (s : StandingValue) : Type 0 where
  pub says : standing_in s ≡ standing_of ledger
  pub few : s.accounts ≤ most_ids
  pub room : ledger_bytes s.accounts ≤ length ledger
  pub terms : terms_outside (terms_in s.terms) ≡ false
  pub earliest : s.earliest ≤ intervals_per_day * s.terms.days
  pub carried : s.carried.0 ≤ most_cents
  pub ids : ids_out_of_order (ids_in (ledger_of ledger)) ≡ false
  pub accounts : any (account_outside (ledger_of ledger).terms) (ledger_of ledger).accounts ≡ false

-- how many ids stand before the first that is the one looked for; all of them if none is
unfoldable pub before : ℕ → List ℕ → ℕ
before id [] = 0
before id (x ∷ xs) = cond (eqb x id) 0 (suc (before id xs))
