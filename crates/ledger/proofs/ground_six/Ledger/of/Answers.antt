-- `ledger::ground_six::Ledger::of` meets its contract. The layout, what stands before the accounts,
-- then the accounts decide.
use mathlib.Core.Path.{refl}
use borrow.Author.Rules.{rules}
use Rattle.reading.specs.Values.{terms_in}
use Rattle.ledger.proofs.GroundSixLaws.{tests}
use Rattle.ledger.proofs.Sound.{said}
use Rattle.ledger.proofs.ground_six.Ledger.of.Goals as goal

pub invariant_of-accounts : goal.invariant_of-accounts
unfolding terms_in
invariant_of-accounts c = record {
  counted = (said _ _ c.standing_of-standing.ensures).count;
  few = search tests;
  room = search tests;
}

pub accounts_refused-requires : goal.accounts_refused-requires
unfolding terms_in
accounts_refused-requires c = record {
  says = search rules;
  terms_inside = search tests;
  carried_inside = search tests;
}

pub invariant_of-result : goal.invariant_of-result
unfolding terms_in
invariant_of-result c = record { read = search tests }

pub returns : goal.returns
unfolding terms_in
returns c = (search tests, refl)
