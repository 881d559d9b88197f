-- `ledger::ground_six::Ledger::held` meets its contract. Ground 6 does not refuse the buffer.
use native.Mathlib.Omega.{arith}
use Rattle.ledger.specs.Ledger.{ledger_bytes}
use Rattle.ledger.proofs.Sound.{ledger_room, ledger_read}
use Rattle.ledger.proofs.ground_six.Ledger.held.Goals as goal

pub standing_of-requires : goal.standing_of-requires
unfolding ledger_bytes
standing_of-requires c = omega (arith, ledger_room c.args.bytes.now c.requires)

pub invariant_of-result : goal.invariant_of-result
invariant_of-result c = record { read = ledger_read _ _ c.requires c.standing_of.ensures }
