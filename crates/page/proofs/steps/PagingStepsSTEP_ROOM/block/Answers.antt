-- The step of a plant's page on a block meets its contract. The number decides whether it is opened or settled.
use mathlib.Core.Path.{ap}
use native.Mathlib.Omega.{arith}
use borrow.Author.Rules.{rules}
use lib.ListN.{length}
use Rattle.page.specs.Code.{state_in}
use Rattle.page.proofs.SettledLaws.{fields_fit, fields_year, opened_held}
use Rattle.page.proofs.StepLaws.{opened_taken, settled_taken}
use Rattle.page.proofs.steps.PagingStepsSTEP_ROOM.block.Goals as goal

pub returns-then-number-eq0-clause-taken : goal.returns-then-number-eq0-clause-taken
returns-then-number-eq0-clause-taken c =
    opened_taken _ _ c.self.inside.page _ _ _ _ _ _ c.self.view_is c.requires.held.fits c.if-number-eq0.true c.requires.empty
    c.open_page.ensures.step_taken

pub returns-then-number-eq0-clause-held_on : goal.returns-then-number-eq0-clause-held_on
returns-then-number-eq0-clause-held_on c =
    λ on. opened_held _ _ c.self.inside.page _ c.self.view_is c.requires.held _ (c.open_page.ensures.year_ledger on)

pub page_interval-requires : goal.page_interval-requires
page_interval-requires c = (
  search rules,
  (
    c.requires.few_blocks,
    (
      fields_fit _ _ _ _ c.self.view_is c.requires.held,
      (fields_year _ _ _ _ c.self.view_is c.requires.held c.if-number-eq0.false, omega (arith, ap length c.requires.empty)),
    ),
  ),
)

pub returns-clause-taken : goal.returns-clause-taken
returns-clause-taken c =
    settled_taken _ _ c.self.inside.page _ _ _ _ _ _ c.self.view_is c.if-number-eq0.false c.requires.empty
    c.page_interval.ensures.same_plant c.page_interval.ensures.step_taken

pub returns-clause-held_on : goal.returns-clause-held_on
unfolding state_in
returns-clause-held_on c =
    λ on. record { fits = c.page_interval.ensures.page_fits_on; year = λ later. c.page_interval.ensures.year_ledger_on }
