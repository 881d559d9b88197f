-- `ledger::opening::write_opened` meets its contract. What stands before the accounts, and the accounts,
-- are the ledger.
use native.Mathlib.Omega.{arith}
use Rattle.ledger.specs.Ledger.{ledger_bytes}
use Rattle.ledger.specs.Values.{standing_in}
use Rattle.ledger.proofs.OpeningLaws.{opened_written}
use Rattle.ledger.proofs.opening.write_opened.Goals as goal

pub write_standing-requires : goal.write_standing-requires
unfolding ledger_bytes
write_standing-requires c = omega arith

pub returns : goal.returns
unfolding ledger_bytes standing_in
returns c =
    opened_written _ _ _ _ _ c.args.listed.now.listed (omega arith) c.write_standing.ensures
    c.write_accounts.ensures
