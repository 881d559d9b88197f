-- `listing::lines::put_word_line` meets its contract. What is left to put is the line of the words from k on.
use Prim.Native.Nat.{◌+◌, ◌*◌, ◌≤◌}
use mathlib.Core.Path.{◌≡◌}
use mathlib.Core.List.{◌++◌}
use lib.ListN.{drop}
use Rattle.arrayvec.specs.ArrayVec.{array_vec_len}
use Rattle.words.specs.Words.{words_in}
use Rattle.listing.specs.Lines.{line}
use Rattle.listing.specs.Room.{field_room}
use Rattle.listing.proofs.lines.put_word_line.Given as goal

abbrev pub invariant-loop-k : goal.invariant-loop-k
invariant-loop-k g l = record {
  left : l.out.items ++ line (drop l.k (words_in l.n l.b)) ≡ l.initial.out.items ++ line (words_in l.n l.b);
  room : array_vec_len l.out ≤ array_vec_len l.initial.out + field_room * l.k;
}
