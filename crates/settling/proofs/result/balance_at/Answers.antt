-- `settling::result::balance_at` meets its contract. Words 4 to 6 of the part of the result that the row begins, each by
-- itself.
use mathlib.Core.Path.{sym, ◌∙◌}
use Rattle.words.specs.Words.{word64}
use Rattle.words.proofs.Access.{number_at_drop}
use Rattle.settling.proofs.result.balance_at.Goals as goal

pub returns-clause-shortfall_value : goal.returns-clause-shortfall_value
unfolding word64
returns-clause-shortfall_value c =
    rw (← c.result_bytes-at.ensures) (c.number.ensures.value ∙ sym (number_at_drop 8 _ _ 32))

pub returns-clause-bonus_value : goal.returns-clause-bonus_value
unfolding word64
returns-clause-bonus_value c =
    rw (← c.result_bytes-at.ensures) (c.number-2.ensures.value ∙ sym (number_at_drop 8 _ _ 40))

pub returns-clause-charge_value : goal.returns-clause-charge_value
unfolding word64
returns-clause-charge_value c =
    rw (← c.result_bytes-at.ensures) (c.number-3.ensures.value ∙ sym (number_at_drop 8 _ _ 48))
