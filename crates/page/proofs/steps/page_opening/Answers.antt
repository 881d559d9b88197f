-- `page::steps::page_opening` meets its contract. Where the stream stops its line is put, and else the opening is taken.
use mathlib.Core.Path.{refl}
use Rattle.stream.specs.Steps.{step}
use Rattle.stream.specs.Code.{found_as}
use Rattle.listing.specs.Code.{in_bytes, stop_lines}
use Rattle.page.specs.Steps.{page_block, page_end, page_steps}
use Rattle.page.proofs.steps.page_opening.Goals as goal

pub returns-in-Ok-clause-step_taken : goal.returns-in-Ok-clause-step_taken
unfolding found_as step page_steps page_block
returns-in-Ok-clause-step_taken g c =
    rw (← c.most_bytes.ensures.value, c.next_block-next.ensures, c.in-Ok.is) c.open_page.ensures.step_taken

pub returns-in-Err-clause-step_taken : goal.returns-in-Err-clause-step_taken
unfolding found_as stop_lines step page_steps page_end in_bytes
returns-in-Err-clause-step_taken g c =
    rw (← c.most_bytes.ensures.value, c.next_block-next.ensures, c.in-Err.is)
    (record { leaves = refl; puts = rw c.in-Err.is at c.put_stop.ensures.puts; goes_on = refl })
