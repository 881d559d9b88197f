-- `settling::grounds::row_ids_unknown` meets its contract. The loop's invariant: ground 12 refuses just where the walk,
-- from where it stands on, does not find the ids of all rows from i on.
use Rattle.reading.specs.Interval.{rows_of}
use Rattle.ledger.specs.Ledger.{ledger_of}
use Rattle.settling.specs.Settling.{row_ids_unknown}
use Rattle.settling.proofs.IdTests.{Seeking}
use Rattle.settling.proofs.grounds.row_ids_unknown.Given as goal

abbrev pub invariant-loop-i : goal.invariant-loop-i
invariant-loop-i l =
    let b = l.accounts.bytes.now in
    let f = l.file.bytes.now in
    Seeking b f (row_ids_unknown (ledger_of b) (rows_of f)) l.i l.walk.account l.walk.budget
