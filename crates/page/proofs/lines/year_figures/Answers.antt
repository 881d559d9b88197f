-- `page::lines::year_figures` meets its contract. The limit is that of the account found, on the terms of its ledger.
use mathlib.Core.Path.{ap}
use native.Mathlib.Omega.{arith}
use Rattle.assessment.specs.Values.{account_in}
use Rattle.ledger.proofs.Sound.{said}
use Rattle.page.proofs.AccountLaws.{largest_most}
use Rattle.page.proofs.StepLaws.{year_says}
use Rattle.page.proofs.lines.year_figures.Goals as goal

pub limit-requires : goal.limit-requires
unfolding account_in
limit-requires c =
    let read = c.args.ledger.read in
    let same = ap (λ a. a.largest) c.plant_account-account.ensures in
    record { terms_value = read.terms; kw_le_most_kilowatts = omega (arith, largest_most read c.args.page.id, same) }

pub returns : goal.returns
returns c =
    year_says _ c.args.page _ _ _ (said _ _ c.args.ledger.read.says).terms c.plant_account-account.ensures
    c.limit.ensures
