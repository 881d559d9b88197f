-- `ledger::layout::account_id` meets its contract. The first word of the account.
use mathlib.Core.Path.{◌∙◌}
use native.Mathlib.Omega.{arith}
use Rattle.ledger.proofs.LayoutLaws.{id_word}
use Rattle.ledger.proofs.layout.account_id.Goals as goal

pub returns : goal.returns
returns c = c.number.ensures.value ∙ id_word _ _ _ (omega (arith, c.ledger_bytes.ensures))
