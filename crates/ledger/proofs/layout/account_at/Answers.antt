-- `ledger::layout::account_at` meets its contract. Four words, from where the account begins.
use Rattle.assessment.specs.Values.{account_in}
use Rattle.ledger.proofs.LayoutLaws.{account_words_lem}
use Rattle.ledger.proofs.layout.account_at.Goals as goal

pub returns : goal.returns
unfolding account_in
returns c =
    rw (← c.ledger_bytes-at.ensures) (account_words_lem _ _ _ c.number.ensures.value c.number-2.ensures.value
    c.number-3.ensures.value c.number-4.ensures.value)
