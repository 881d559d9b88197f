-- `listing::lines::put_pool_line` meets its contract. The name, the interval and the words stand one after the other.
use mathlib.Core.List.{append_assoc}
use Rattle.listing.specs.Lines.{text}
use native.Mathlib.Omega.{arith}
use Rattle.std.proofs.lemmas.Grind.{common_steps}
use Rattle.listing.proofs.LineLaws.{pool_bytes}
use Rattle.listing.proofs.lines.put_pool_line.Goals as goal

pub returns : goal.returns
unfolding text
returns g c = record {
  puts = rw (c.put_word_line.ensures.puts, c.put_number.ensures.puts, c.put_text.ensures, pool_bytes)
      (simp append_assoc);
  fits = grind (arith, common_steps);
}
