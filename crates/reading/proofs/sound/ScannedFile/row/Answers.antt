-- `reading::sound::ScannedFile::row` meets its contract. No row of the file is refused.
use native.Mathlib.Omega.{arith}
use Rattle.reading.proofs.SoundRows.{sound_row}
use Rattle.reading.proofs.sound.ScannedFile.row.Goals as goal

pub invariant_of-result : goal.invariant_of-result
invariant_of-result c =
    let file = c.args.self.now in
    record { sound = sound_row file.scanned file.file.tabled.read _ (omega arith) c.row.ensures.words }
