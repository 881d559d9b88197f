-- `reading::file::File::curve` meets its contract. The part of the file from the first point on.
use Rattle.reading.specs.Values.{header_in, schedule_in}
use Rattle.reading.proofs.Parts.{curve_part_lem}
use Rattle.reading.proofs.file.File.curve.Goals as goal

pub returns-clause-part : goal.returns-clause-part
unfolding header_in schedule_in
returns-clause-part c =
    let file = c.args.self.now in
    curve_part_lem file.bytes.now (header_in file.header) (schedule_in c.args.s) file.tabled.read.says
