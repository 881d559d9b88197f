-- `page::steps::open_page` meets its contract. The id is looked for in the ledger that an accepted opening leaves.
use mathlib.Core.Path.{ap}
use native.Mathlib.Omega.{arith}
use borrow.Author.Rules.{rules}
use lib.ListN.{length}
use Rattle.page.proofs.YearLaws.{year_opened}
use Rattle.page.proofs.StepLaws.{stopped_paged, accepted_holds, accepted_same, known_paged, foreign_paged}
use Rattle.page.proofs.steps.open_page.Goals as goal

pub returns-then-not-opened-clause-step_taken : goal.returns-then-not-opened-clause-step_taken
returns-then-not-opened-clause-step_taken g c =
    let taken = stopped_paged _ _ _ _ _ _ c.list_opening-opened.ensures c.args.id c.if-not-opened.true in
    rw c.if-not-opened.true at taken

pub held-requires : goal.held-requires
held-requires g c =
    accepted_holds _ _ _ _ _ _ c.list_opening-opened.ensures c.if-not-opened.false
    (λ i. omega (arith, c.type_inv.block i))

pub returns-then-has_account-clause-step_taken : goal.returns-then-has_account-clause-step_taken
returns-then-has_account-clause-step_taken g c =
    let taken = known_paged _ _ _ _ _ _ c.list_opening-opened.ensures c.if-not-opened.false
    (λ i. omega (arith, c.type_inv.block i)) c.args.id _ (rw c.held.ensures at c.has_account.ensures) c.if-has_account.true in
    rw c.if-not-opened.false at taken

pub returns-then-has_account-clause-year_ledger : goal.returns-then-has_account-clause-year_ledger
returns-then-has_account-clause-year_ledger g c =
    λ on. year_opened _ _ _ _ _ _ c.list_opening-opened.ensures c.if-not-opened.false
    (λ i. omega (arith, c.type_inv.block i))

pub put_refused-requires : goal.put_refused-requires
put_refused-requires g c =
    let same = ap length (accepted_same _ _ _ _ _ _ c.list_opening-opened.ensures c.if-not-opened.false
    (λ i. omega (arith, c.type_inv.block i))) in
    (search rules, omega (arith, same, c.requires))

pub returns-clause-step_taken : goal.returns-clause-step_taken
returns-clause-step_taken g c =
    foreign_paged _ _ _ _ _ _ c.list_opening-opened.ensures c.if-not-opened.false
    (λ i. omega (arith, c.type_inv.block i))
    _ _ (rw c.held.ensures at c.has_account.ensures) c.if-has_account.false _
    (rw (c.from.ensures, c.number.ensures) at c.put_refused.ensures.puts)
