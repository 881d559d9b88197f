-- `page::account::plant_account` meets its contract. Where the walk stops, the account stands.
use mathlib.Core.Path.{sym, ◌∙◌}
use native.Mathlib.Omega.{arith}
use Rattle.ledger.specs.Ledger.{ledger_bytes}
use Rattle.page.proofs.AccountLaws.{none_there, one_there, found_there}
use Rattle.page.proofs.account.plant_account.Goals as goal

pub returns-then-ended : goal.returns-then-ended
returns-then-ended c =
    rw (← c.accounts-accounts.ensures.bytes_value)
    (c.empty.ensures
    ∙ sym (none_there _ c.accounts-accounts.result.counted _ c.walk_to-walk.ensures c.ended.ensures c.if-ended.true))

pub account_at-requires : goal.account_at-requires
unfolding ledger_bytes
account_at-requires c =
    let here = one_there _ c.accounts-accounts.result.counted _ c.walk_to-walk.ensures c.ended.ensures
    c.if-ended.false in
    omega (arith, here, c.accounts-accounts.result.room)

pub returns : goal.returns
returns c =
    rw (← c.accounts-accounts.ensures.bytes_value)
    (found_there _ c.accounts-accounts.result.counted _ c.walk_to-walk.ensures c.ended.ensures _ c.if-ended.false
    c.account_at.ensures)
