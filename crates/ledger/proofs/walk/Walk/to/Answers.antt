-- `ledger::walk::Walk::to` meets its contract. The invariant:
-- the id, if it is still to come, stands where a walk from the first place on finds it.
use mathlib.Core.Path.{sym, ◌∙◌}
use native.Mathlib.Omega.{arith}
use Rattle.ledger.proofs.WalkLaws.{none_left, one_at_least, found_here, passed_by}
use Rattle.ledger.proofs.walk.Walk.to.Goals as goal

pub overflow_sub-budget : goal.overflow_sub-budget
overflow_sub-budget c = omega (arith, one_at_least c.args.accounts.bytes.now c.args.id c.loop-j.j (omega arith))

pub returns-then-account_id-id : goal.returns-then-account_id-id
returns-then-account_id-id c =
    let found = found_here c.args.accounts.bytes.now c.args.id c.loop-j.j (omega arith) (sym c.account_id.ensures ∙ c.if-account_id-id.true) in
    record { account_value = omega (arith, found); account_within = omega arith; budget_value = omega (arith, found) }

pub loop-j-preserved : goal.loop-j-preserved
loop-j-preserved c =
    let passed = passed_by c.args.accounts.bytes.now c.args.id c.loop-j.j (omega arith)
    (λ e. c.if-account_id-id.false (c.account_id.ensures ∙ e)) in
    record { place = omega (arith, passed); spent = omega (arith, passed) }

pub returns : goal.returns
returns c =
    let none = none_left c.args.accounts.bytes.now c.args.id c.loop-j.j (omega arith) in
    record { account_value = omega (arith, none); account_within = omega arith; budget_value = omega (arith, none) }
