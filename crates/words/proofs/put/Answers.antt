-- `words::put` meets its contract. What is left to write is the bytes from i on.
use native.Mathlib.Omega.{arith}
use Rattle.words.proofs.Placing.{bytes_turn, bytes_all}
use Rattle.words.proofs.put.Goals as goal

pub loop-i-preserved : goal.loop-i-preserved
loop-i-preserved g c =
    bytes_turn _ _ _ _ _ _ _ _ _ _ c.loop-i.invariant (omega arith) (omega arith) (omega arith) (omega arith)
    (omega arith) (omega arith)

pub returns : goal.returns
returns g c = bytes_all _ _ _ _ _ c.loop-i.invariant (omega arith)
