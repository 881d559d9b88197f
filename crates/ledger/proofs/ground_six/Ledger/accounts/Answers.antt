-- `ledger::ground_six::Ledger::accounts` meets its contract. What is known of the ledger is known of its accounts.
use Rattle.ledger.proofs.Sound.{said}
use Rattle.ledger.proofs.ground_six.Ledger.accounts.Goals as goal

pub invariant_of-result : goal.invariant_of-result
invariant_of-result c =
    let read = c.args.self.read in
    record { counted = (said _ _ read.says).count; few = read.few; room = read.room }
