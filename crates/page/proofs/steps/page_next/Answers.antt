-- `page::steps::page_next` meets its contract. Where the stream stops its line and the year are put, and else the
-- interval is settled.
use mathlib.Core.Path.{refl}
use native.Mathlib.Omega.{arith}
use Rattle.stream.specs.Steps.{step}
use Rattle.stream.specs.Code.{found_as}
use Rattle.listing.specs.Code.{in_bytes, stop_lines}
use Rattle.page.specs.Steps.{page_steps}
use Rattle.page.specs.Code.{state_in}
use Rattle.page.proofs.StepLaws.{block_later, ended_later}
use Rattle.page.proofs.YearLaws.{year_holds}
use Rattle.page.proofs.SettledLaws.{page_more}
use Rattle.page.proofs.steps.page_next.Goals as goal

pub returns-in-Ok-clause-step_taken : goal.returns-in-Ok-clause-step_taken
unfolding found_as step page_steps state_in
returns-in-Ok-clause-step_taken g c =
    let later = block_later c.args.page.now.id c.args.number (state_in c.args.ledger.now c.args.page.now) c.args.block.now
    (λ first. omega (arith, first, c.requires.after_opening)) in
    rw (← c.most_bytes.ensures.value, c.next_block-next.ensures, c.in-Ok.is, later) c.page_interval.ensures.step_taken

pub held-requires : goal.held-requires
held-requires g c = year_holds c.requires.year_ledger

pub returns-in-Err-clause-step_taken : goal.returns-in-Err-clause-step_taken
unfolding found_as stop_lines step page_steps state_in in_bytes
returns-in-Err-clause-step_taken g c =
    let put = ended_later c.args.page.now.id c.args.number (state_in c.args.ledger.now c.args.page.now) _ _ _ _
    (λ first. omega (arith, first, c.requires.after_opening)) (rw c.in-Err.is at c.put_stop.ensures.puts)
    (rw c.held.ensures at c.put_year.ensures.puts) in
    rw (← c.most_bytes.ensures.value, c.next_block-next.ensures, c.in-Err.is)
    (record { leaves = refl; puts = put; goes_on = refl })

pub returns-in-Err-clause-page_fits_on : goal.returns-in-Err-clause-page_fits_on
unfolding state_in
returns-in-Err-clause-page_fits_on g c = page_more _ _ _ c.requires.page_fits (omega arith) (omega arith)
