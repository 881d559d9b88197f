-- The step of a plant's page where the stream stops meets its contract. The number decides whether the year line is put.
use mathlib.Core.Path.{ap, ◌∙◌}
use mathlib.Core.List.{◌++◌}
use native.Mathlib.Omega.{arith}
use lib.ListN.{length}
use Rattle.stream.specs.Code.{found_as}
use Rattle.listing.specs.Lines.{Line, bytes_of_line}
use Rattle.listing.specs.Code.{stop_lines}
use Rattle.page.specs.Page.{year_of}
use Rattle.page.specs.Code.{state_in}
use Rattle.page.proofs.YearLaws.{year_holds}
use Rattle.page.proofs.SettledLaws.{fields_year}
use Rattle.page.proofs.StepLaws.{stopped_first, stopped_later}
use Rattle.page.proofs.steps.PagingStepsSTEP_ROOM.stop.Goals as goal

pub held-requires : goal.held-requires
held-requires c = year_holds (fields_year _ _ _ _ c.self.view_is c.requires.held c.if-number-ne0.true)

pub put_year-requires : goal.put_year-requires
put_year-requires c = omega (arith, ap length c.requires.empty)

pub returns-then-number-ne0 : goal.returns-then-number-ne0
unfolding state_in found_as stop_lines
returns-then-number-ne0 c =
    let says = ap (λ p. c.put_stop.new.out.items ++ bytes_of_line (Line.year (year_of p.id p.state.shortfall p.state.bonus p.state.ledger)))
    c.self.view_is in
    stopped_later _ _ _ _ _ _ c.if-number-ne0.true c.requires.empty c.put_stop.ensures.puts
    (rw c.held.ensures at c.put_year.ensures.puts ∙ says)

pub returns-else-number-ne0 : goal.returns-else-number-ne0
unfolding found_as stop_lines
returns-else-number-ne0 c =
    stopped_first _ _ _ _ _ c.if-number-ne0.false c.requires.empty c.put_stop.ensures.puts
