-- `words::store` meets its contract. What is left to write is the words from i on.
use native.Mathlib.Nat.{mul-le-mul_left}
use native.Mathlib.Omega.{arith}
use Rattle.words.proofs.Placing.{words_turn, words_all}
use Rattle.words.proofs.store.Goals as goal

pub put-requires : goal.put-requires
put-requires g c = rw c.BYTES.ensures (omega (arith, mul-le-mul_left g.W.Word.BYTES c.loop-i-test.true))

pub loop-i-preserved : goal.loop-i-preserved
loop-i-preserved g c =
    words_turn _ _ _ c.loop-i.i _ _ _ _ _ c.loop-i.invariant c.loop-i-test.true
    (omega (arith, mul-le-mul_left g.W.Word.BYTES c.loop-i-test.true)) (rw c.BYTES.ensures at c.put.ensures) (omega arith)
    (omega arith)

pub returns : goal.returns
returns g c = words_all _ _ c.loop-i.i _ _ _ c.loop-i.invariant (omega arith)
