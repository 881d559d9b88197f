-- `event::settle_files` meets its contract.
-- What is left to do after some files is an event of the rest of the files and of the result.
use Prim.Native.Nat.{◌+◌}
use lib.ListN.{length}
use Rattle.event.specs.Event.{settled_files}
use Rattle.event.proofs.FilesLaws.{Going}
use Rattle.event.proofs.settle_files.Given as goal

abbrev pub invariant-loop-found : goal.invariant-loop-found
invariant-loop-found l =
    Going (settled_files (length l.files + 1) l.fn.ledger l.files l.fn.res) (length l.files) l.found-iterator.rest.now
    l.ledger l.res l.settled l.filled
