-- What the code's answers mean.
use Rattle.std.specs.Prelude.{ℕ, ◌+◌, ◌≤◌, ◌≡◌, List, [], ◌++◌}
use Rattle.arrayvec.specs.ArrayVec.{ArrayVec, array_vec_len}
use Rattle.stream.specs.Stream.{Next}
use Rattle.stream.specs.Steps.{Outcome}
use Rattle.listing.specs.Lines.{Line, YearLine, bytes_of_lines}
use Rattle.listing.specs.Npalist.{end_lines}
use Rattle.listing.specs.declared.lines.YearFigures.{YearFigures}

-- an outcome whose lines are printed as bytes
unfoldable pub in_bytes : {S : Type 0} → Outcome Line S → Outcome ℕ S
in_bytes o = record { printed = bytes_of_lines o.printed; state = o.state; on = o.on }

-- the line where a stream stops, if any; none where a block is next
unfoldable pub stop_lines : ℕ → Next → List Line
stop_lines number (Next.stop e) = end_lines number e
stop_lines number (Next.block bytes rest) = []

-- what the figures of a year say
unfoldable pub year_in : YearFigures → YearLine
year_in y = record {
  id = y.id;
  shortfall = y.shortfall.0;
  bonus = y.bonus.0;
  charged = y.charged.0;
  credited = y.credited.0;
  limit = y.limit.0;
}

-- bytes put behind those that a buffer holds, where they take so much room at most
pub record Puts (before : ArrayVec ℕ) (bytes : List ℕ) (room : ℕ) (after : ArrayVec ℕ) : Type 0 where
  pub puts : after.items ≡ before.items ++ bytes
  pub fits : array_vec_len after ≤ array_vec_len before + room
