-- `words::U32Word::number` meets its contract. Four bytes, the lowest first.
use native.Mathlib.Omega.{arith}
use Rattle.words.proofs.Access.{four_bytes}
use Rattle.words.proofs.U32Word.number.Goals as goal

pub returns-clause-value : goal.returns-clause-value
returns-clause-value c = omega (arith, four_bytes c.args.b.now c.args.at, c.from_le_bytes.ensures)
