-- `reading::file::File::scanned` meets its contract. Where no ground is answered, none refuses a row; the numbers that the
-- match leaves over are ground 14's.
use mathlib.Core.Path.{sym, ◌∙◌}
use native.Mathlib.Omega.{arith}
use Rattle.reading.proofs.ScanTests.{last_ground}
use Rattle.reading.proofs.SoundRows.{scanned}
use Rattle.reading.proofs.file.File.scanned.Goals as goal

pub invariant_of-result : goal.invariant_of-result
invariant_of-result c = record { scanned = scanned _ (sym c.scan.ensures ∙ c.in-0.is) }

pub returns-in_default-clause-answer : goal.returns-in_default-clause-answer
returns-in_default-clause-answer c =
    last_ground _ c.scan.ensures (λ z. omega arith) (λ z. omega arith) (λ z. omega arith)
