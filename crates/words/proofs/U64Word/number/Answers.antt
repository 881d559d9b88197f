-- `words::U64Word::number` meets its contract. Two halves of 32 bits.
use native.Mathlib.Omega.{arith}
use Rattle.words.proofs.Access.{split_number}
use Rattle.words.proofs.U64Word.number.Goals as goal

pub returns-clause-value : goal.returns-clause-value
returns-clause-value c = rw (split_number 4 4) (omega arith)
