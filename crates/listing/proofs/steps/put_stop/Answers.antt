-- `listing::steps::put_stop` meets its contract. Each end puts its line, and a block none.
use mathlib.Core.List.{append-nil}
use native.Mathlib.Omega.{arith}
use Rattle.words.specs.Refusals.{ground_number}
use Rattle.stream.specs.Code.{end_in, found_as}
use Rattle.listing.specs.Lines.{Line, bytes_of_lines}
use Rattle.listing.specs.Npalist.{end_lines}
use Rattle.listing.specs.Code.{stop_lines}
use Rattle.listing.proofs.LineLaws.{one_line}
use Rattle.listing.proofs.steps.put_stop.Goals as goal

pub returns-in-Ok : goal.returns-in-Ok
unfolding found_as stop_lines bytes_of_lines
returns-in-Ok g c = record {
  puts = rw (c.in-Ok.is, append-nil);
  fits = omega arith;
}

pub returns-in-Ended : goal.returns-in-Ended
unfolding found_as end_in stop_lines
returns-in-Ended g c = record {
  puts = rw (c.in-Err.is, c.in-Ended.is) c.put_end.ensures.puts;
  fits = omega arith;
}

pub returns-in-Cut : goal.returns-in-Cut
unfolding found_as end_in stop_lines end_lines
returns-in-Cut g c = record {
  puts = rw (c.in-Err.is, c.in-Cut.is, ← one_line (Line.cut c.args.number)) c.put_cut.ensures.puts;
  fits = omega arith;
}

pub returns-in-OverLong : goal.returns-in-OverLong
unfolding found_as end_in stop_lines end_lines
returns-in-OverLong g c =
    let line = one_line (Line.refused c.args.number (ground_number c.over_long_ground.result)) in record {
      puts = rw (c.in-Err.is, c.in-OverLong.is, ← c.over_long_ground.ensures, ← line, ← c.number.ensures, ← c.from.ensures)
          c.put_refused.ensures.puts;
      fits = omega arith;
    }
