-- `listing::blocks::put_row_lines` meets its contract. What is left to put is the lines of the rows from i on.
use Prim.Native.Nat.{◌+◌, ◌*◌, ◌≤◌}
use mathlib.Core.Path.{◌≡◌}
use mathlib.Core.List.{◌++◌}
use Rattle.arrayvec.specs.ArrayVec.{array_vec_len}
use Rattle.listing.specs.Lines.{bytes_of_lines}
use Rattle.listing.specs.Npalist.{file_lines}
use Rattle.listing.specs.Room.{row_room}
use Rattle.listing.proofs.BlockLaws.{lines_left}
use Rattle.listing.proofs.blocks.put_row_lines.Given as goal

abbrev pub invariant-loop-i : goal.invariant-loop-i
invariant-loop-i g l = record {
  left : l.out.items ++ lines_left l.file.bytes.now l.res l.file.header.interval l.i
      ≡ l.initial.out.items ++ bytes_of_lines (file_lines l.file.bytes.now l.res);
  room : array_vec_len l.out ≤ array_vec_len l.initial.out + row_room * l.i;
}
