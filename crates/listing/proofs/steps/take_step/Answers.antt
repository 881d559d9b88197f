-- `listing::steps::take_step` meets its contract. What was read is an end or a block, and its step is taken.
use Rattle.stream.specs.Code.{found_as}
use Rattle.listing.proofs.steps.take_step.Goals as goal

pub returns-in-Ok-clause-taken : goal.returns-in-Ok-clause-taken
unfolding found_as
returns-in-Ok-clause-taken g c =
    rw (← c.most_bytes.ensures.value, c.next_block.ensures, c.in-Ok.is) c.block.ensures.taken

pub returns-in-Err-clause-taken : goal.returns-in-Err-clause-taken
unfolding found_as
returns-in-Err-clause-taken g c =
    rw (← c.most_bytes.ensures.value, c.next_block.ensures, c.in-Err.is) c.stop.ensures
