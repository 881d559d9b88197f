-- `settling::posting::post_rows`: what is left to credit and to post is that of the rows from i on, each found by the
-- walk from its account on.
use native.Mathlib.Omega.{arith}
use borrow.Author.Rules.{rules}
use Rattle.settling.proofs.PostingLaws.{turns, pass_starts, pass_ends, accounts_kept, accounts_lie}
use Rattle.settling.proofs.posting.post_rows.Goals as goal

pub loop-i-init : goal.loop-i-init
loop-i-init c =
    let pre = c.requires in
    let walk = c.start-walk.ensures in
    pass_starts pre.passed (λ i. omega (arith, c.type_inv.ledger i)) pre.rows_in_bounds pre.res_value walk.account_value
    walk.budget_value

pub invariant_of-accounts : goal.invariant_of-accounts
invariant_of-accounts c =
    let p = c.requires.passed in
    let pass = c.loop-i.invariant in
    record { counted = accounts_kept p pass; few = p.ledger_read.few; room = accounts_lie p pass }

pub to-walk-requires : goal.to-walk-requires
to-walk-requires c = record { account_within = search turns; budget_suffices = search turns }

pub account_at-requires : goal.account_at-requires
account_at-requires c = search turns

pub balance_at-balance-requires : goal.balance_at-balance-requires
balance_at-balance-requires c = record { row_few = search rules; row_in_bounds = search turns }

pub credit-credit-requires : goal.credit-credit-requires
credit-credit-requires c = search turns

pub write_credit-requires : goal.write_credit-requires
write_credit-requires c = record { row_few = search rules; row_in_bounds = search turns }

pub added-requires : goal.added-requires
added-requires c = record { charge_bound = search turns; credit_bound = search turns }

pub write_account-requires : goal.write_account-requires
write_account-requires c = search turns

pub plus-credits-requires : goal.plus-credits-requires
plus-credits-requires c = search turns

pub loop-i-preserved : goal.loop-i-preserved
loop-i-preserved c = search turns

pub shape_of-ledger : goal.shape_of-ledger
shape_of-ledger c = search turns

pub shape_of-res : goal.shape_of-res
shape_of-res c = search turns

pub returns : goal.returns
returns c =
    let ends = pass_ends c.requires.passed c.loop-i.invariant c.loop-i-test.false in
    record { result_value = ends.0; ledger_after = ends.1.0; res_after = ends.1.1 }
