-- `ledger::opening::write_accounts` meets its contract. The invariant:
-- to write the accounts left into the ledger as it is now is to write all of them into it as it was.
use mathlib.Core.Path.{refl}
use native.Mathlib.Omega.{arith}
use borrow.Author.Rules.{rules}
use Rattle.reading.specs.Block.{block_of}
use Rattle.reading.proofs.Facts.{length_listed}
use Rattle.ledger.specs.Ledger.{ledger_bytes}
use Rattle.ledger.proofs.OpeningLaws.{new_turn, new_done}
use Rattle.ledger.proofs.opening.write_accounts.Goals as goal

pub loop-i-init : goal.loop-i-init
unfolding ledger_bytes
loop-i-init c = (search rules, refl, refl)

pub loop-i-preserved : goal.loop-i-preserved
loop-i-preserved c =
    let is = (block_of c.args.listed.now.bytes.now).ids in
    let n = length_listed c.args.listed.now.listed in
    let turn =
    new_turn is c.loop-i.ledger _ _ c.loop-i.i _ _ (omega (arith, n))
    c.id.ensures c.empty.ensures
    (unfold ledger_bytes in omega arith) c.write_account.ensures c.loop-i.invariant.1 in
    (search rules, turn, search rules)

pub returns : goal.returns
returns c =
    new_done (block_of c.args.listed.now.bytes.now).ids c.loop-i.ledger _ c.loop-i.i
    (omega (arith, length_listed c.args.listed.now.listed)) c.loop-i.invariant.1
