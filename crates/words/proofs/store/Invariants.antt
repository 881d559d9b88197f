-- `words::store` meets its contract. What is left to write is the words from i on.
use Rattle.std.proofs.Common.{◌≡◌, ◌*◌, drop}
use Rattle.words.specs.Words.{bytes_of_words, placed_at}
use Rattle.words.proofs.store.Given as goal

abbrev pub invariant-loop-i : goal.invariant-loop-i
invariant-loop-i g l =
    placed_at (g.W.Word.BYTES * l.i) (bytes_of_words g.W.Word.BYTES (drop l.i l.s)) l.b ≡ placed_at 0 (bytes_of_words g.W.Word.BYTES l.s) l.initial.b
