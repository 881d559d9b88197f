-- `reading::file::File::schedules` meets its contract. The header is the one that the file says.
use mathlib.Core.Path.{sym}
use Rattle.reading.proofs.Facts.{format_said}
use Rattle.reading.proofs.file.File.schedules.Goals as goal

pub returns : goal.returns
returns c =
    let file = c.args.self.now in
    c.schedules.ensures file.bytes.now (sym (format_said file.tabled.read))
