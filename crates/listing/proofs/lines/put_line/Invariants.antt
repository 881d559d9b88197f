-- `listing::lines::put_line` meets its contract. What is left to put is the line of the numbers from v on.
use Prim.Native.Nat.{◌+◌, ◌*◌, ◌≤◌}
use mathlib.Core.Path.{◌≡◌}
use mathlib.Core.List.{◌++◌}
use lib.ListN.{drop}
use Rattle.arrayvec.specs.ArrayVec.{array_vec_len}
use Rattle.listing.specs.Lines.{line}
use Rattle.listing.specs.Room.{field_room}
use Rattle.listing.proofs.lines.put_line.Given as goal

abbrev pub invariant-loop-v : goal.invariant-loop-v
invariant-loop-v g l = record {
  left : l.out.items ++ line (drop l.v-index l.numbers) ≡ l.initial.out.items ++ line l.numbers;
  room : array_vec_len l.out ≤ array_vec_len l.initial.out + field_room * l.v-index;
}
