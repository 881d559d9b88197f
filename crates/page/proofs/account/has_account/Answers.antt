-- `page::account::has_account` meets its contract. A walk that does not pass the last account has found the id.
use Rattle.page.proofs.AccountLaws.{has_is}
use Rattle.page.proofs.account.has_account.Goals as goal

pub returns : goal.returns
returns c =
    rw (← c.accounts-accounts.ensures.bytes_value)
    (has_is _ c.accounts-accounts.result.counted _ c.walk_to.ensures c.ended.ensures)
