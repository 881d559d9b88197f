-- `page::lines::row_of` meets its contract. What is left is the place of the id among the rows from i on.
use mathlib.Core.Path.{◌≡◌}
use Rattle.reading.specs.Interval.{rows_of}
use Rattle.ledger.specs.Values.{before}
use Rattle.page.proofs.RowLaws.{row_ids, place_from}
use Rattle.page.proofs.lines.row_of.Given as goal

abbrev pub invariant-loop-i : goal.invariant-loop-i
invariant-loop-i l = before l.id (row_ids (rows_of l.file.bytes.now)) ≡ place_from l.file.bytes.now l.id l.i
