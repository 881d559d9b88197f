-- `ledger::layout::write_account` meets its contract. Four words, from where the account begins.
use Rattle.words.proofs.Access.{part_written}
use Rattle.assessment.specs.Values.{account_in}
use Rattle.ledger.specs.Ledger.{account_words}
use Rattle.ledger.proofs.layout.write_account.Goals as goal

pub returns : goal.returns
unfolding account_words account_in
returns c = rw (← c.ledger_bytes-at.ensures) (part_written _ _ _ _ c.store.ensures)
