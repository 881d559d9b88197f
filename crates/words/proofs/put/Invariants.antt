-- `words::put` meets its contract. What is left to write is the bytes from i on.
use Rattle.std.proofs.Common.{◌≡◌, ◌+◌, ◌-◌}
use Rattle.words.specs.Words.{bytes_of, placed_at}
use Rattle.words.proofs.put.Given as goal

abbrev pub invariant-loop-i : goal.invariant-loop-i
invariant-loop-i g l =
    placed_at (l.at + l.i) (bytes_of (g.W.Word.BYTES - l.i) l.rest) l.b ≡ placed_at l.at (bytes_of g.W.Word.BYTES l.v) l.initial.b
