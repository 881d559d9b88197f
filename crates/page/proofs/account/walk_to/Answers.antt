-- `page::account::walk_to` meets its contract. The budget of one row and the accounts suffices.
use mathlib.Core.Path.{ap, ◌∙◌}
use Prim.Native.Nat.{◌+◌}
use native.Mathlib.Omega.{arith}
use lib.ListN.{drop}
use Rattle.ledger.specs.Ledger.{ledger_of, ids_in}
use Rattle.ledger.specs.Values.{before}
use Rattle.page.proofs.AccountLaws.{one_row_enough}
use Rattle.page.proofs.account.walk_to.Goals as goal

pub to-requires : goal.to-requires
to-requires c =
    let start = c.start.ensures in
    record {
      account_within = omega arith;
      budget_suffices = one_row_enough _ c.args.accounts.counted c.args.id start.account_value start.budget_value;
    }

pub returns : goal.returns
returns c =
    let ids = ids_in (ledger_of c.args.accounts.bytes.now) in
    c.to.ensures.account_value ∙ ap (λ k. k + before c.args.id (drop k ids)) c.start.ensures.account_value ∙ omega arith
