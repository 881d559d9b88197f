-- The step of a listing where the stream stops meets its contract. Its line is put.
use Rattle.stream.specs.Code.{found_as}
use Rattle.listing.specs.Code.{stop_lines}
use Rattle.listing.proofs.EndLaws.{end_taken}
use Rattle.listing.proofs.steps.ListingStepsLINES_BYTES.stop.Goals as goal

pub returns : goal.returns
unfolding found_as stop_lines
returns c = end_taken _ _ _ _ _ c.requires.empty c.put_stop.ensures.puts
