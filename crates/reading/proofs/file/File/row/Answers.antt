-- `reading::file::File::row` meets its contract. The part of the file that begins with the row, by the format.
use mathlib.Core.Path.{refl, ◌∙◌}
use Rattle.reading.proofs.Facts.{row_read}
use Rattle.reading.proofs.Layouts.{curves_said, schedules_said, row_fourteen, row_fifteen}
use Rattle.reading.proofs.Parts.{part_at}
use Rattle.reading.proofs.file.File.row.Goals as goal

pub returns-in-Curves-clause-words : goal.returns-in-Curves-clause-words
returns-in-Curves-clause-words c =
    let file = c.args.self.now in
    c.row_of.ensures.words
    ∙ row_read file.tabled.read (row_fourteen (curves_said c.in-Curves.ensures)) c.args.i
    (part_at file.bytes.now _ _ refl)

pub returns-in-Schedules-clause-words : goal.returns-in-Schedules-clause-words
returns-in-Schedules-clause-words c =
    let file = c.args.self.now in
    c.row_of-in-Schedules.ensures.words
    ∙ row_read file.tabled.read (row_fifteen (schedules_said c.in-Schedules.ensures)) c.args.i
    (part_at file.bytes.now _ _ refl)
