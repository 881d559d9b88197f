-- `ledger::opening::write_accounts` meets its contract. The invariant:
-- to write the accounts left into the ledger as it is now is to write all of them into it as it was.
use Prim.Native.Nat.{◌-◌, ◌≤◌}
use mathlib.Core.Path.{◌≡◌}
use lib.ListN.{length, drop}
use Rattle.words.specs.Words.{written_at}
use Rattle.reading.specs.Block.{block_of}
use Rattle.ledger.specs.Ledger.{ledger_header_bytes, ledger_bytes}
use Rattle.ledger.proofs.OpeningLaws.{new_words}
use Rattle.ledger.proofs.opening.write_accounts.Given as goal

abbrev pub invariant-loop-i : goal.invariant-loop-i
invariant-loop-i l =
    let ids = (block_of l.listed.bytes.now).ids in
    (l.i ≤ l.listed.block.ids)
    × (written_at (ledger_bytes l.i) (new_words (drop l.i ids)) l.ledger
    ≡ written_at ledger_header_bytes (new_words ids) l.initial.ledger)
    × (length l.ledger ≡ length l.initial.ledger)

abbrev pub decreases-loop-i : goal.decreases-loop-i
decreases-loop-i l = l.listed.block.ids - l.i
