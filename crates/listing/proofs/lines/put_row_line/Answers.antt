-- `listing::lines::put_row_line` meets its contract. Interval, id and the words stand one after the other.
use mathlib.Core.List.{append_assoc}
use native.Mathlib.Omega.{arith}
use Rattle.listing.proofs.LineLaws.{row_bytes}
use Rattle.listing.proofs.lines.put_row_line.Goals as goal

pub returns : goal.returns
returns g c = record {
  puts = rw (c.put_word_line.ensures.puts, c.put_number-2.ensures.puts, c.put_number.ensures.puts, row_bytes)
      (simp append_assoc);
  fits = omega arith;
}
