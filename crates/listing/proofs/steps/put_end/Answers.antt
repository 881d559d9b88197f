-- `listing::steps::put_end` meets its contract. The number decides whether a cut is put.
use mathlib.Core.List.{[], ◌∷◌, append-nil}
use native.Mathlib.Omega.{arith}
use Rattle.listing.specs.Lines.{Line, bytes_of_lines}
use Rattle.listing.specs.Npalist.{end_lines}
use Rattle.listing.proofs.EndLaws.{at_first, at_later}
use Rattle.listing.proofs.LineLaws.{one_line}
use Rattle.listing.proofs.steps.put_end.Goals as goal

pub returns : goal.returns
unfolding end_lines
returns g c =
    let first = at_first c.args.number (Line.cut 0 ∷ []) [] c.if-number-ne0.false in record {
      puts = rw (first, ← one_line (Line.cut 0)) c.put_cut.ensures.puts;
      fits = omega arith;
    }

pub returns-then-number-ne0 : goal.returns-then-number-ne0
unfolding end_lines bytes_of_lines
returns-then-number-ne0 g c = record {
  puts = rw (at_later c.args.number (Line.cut 0 ∷ []) [] c.if-number-ne0.true, append-nil);
  fits = omega arith;
}
