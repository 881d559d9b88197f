-- `listing::steps::list_next` meets its contract. Where the stream stops its line is put, and else the block's lines.
use mathlib.Core.Path.{refl}
use Rattle.stream.specs.Steps.{step}
use Rattle.stream.specs.Code.{found_as}
use Rattle.listing.specs.Npalist.{listing_steps}
use Rattle.listing.specs.Code.{in_bytes, stop_lines}
use Rattle.listing.proofs.steps.list_next.Goals as goal

pub returns-in-Ok : goal.returns-in-Ok
unfolding found_as step listing_steps
returns-in-Ok g c = rw (← c.most_bytes.ensures.value, c.next_block-next.ensures, c.in-Ok.is) c.list_block.ensures

pub returns-in-Err : goal.returns-in-Err
unfolding found_as stop_lines step listing_steps in_bytes
returns-in-Err g c =
    rw (← c.most_bytes.ensures.value, c.next_block-next.ensures, c.in-Err.is)
    (record { leaves = refl; puts = rw c.in-Err.is at c.put_stop.ensures.puts; goes_on = refl })
