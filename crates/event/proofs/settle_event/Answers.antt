-- `event::settle_event` meets its contract. Without room for the number of files nothing is done.
use mathlib.Core.Path.{sym, ◌∙◌}
use native.Mathlib.Omega.{arith}
use Rattle.words.proofs.Access.{word_placed}
use Rattle.event.proofs.AnswerLaws.{short_answer, long_answer}
use Rattle.event.proofs.settle_event.Goals as goal

pub returns-then-count-lt-COUNT_BYTES : goal.returns-then-count-lt-COUNT_BYTES
returns-then-count-lt-COUNT_BYTES c =
    let both = short_answer _ _ _ _ (omega arith) in
    record { answer = both.0; ledger_bytes = both.1.0; result_bytes = both.1.1.0; count_bytes = both.1.1.1 }

pub returns : goal.returns
returns c =
    let counted = c.put.ensures ∙ sym (word_placed _ _ _) in
    let both = long_answer _ _ _ _ _ _ _ _ _ (omega arith) c.settle_files-outcome.ensures counted in
    record { answer = both.0; ledger_bytes = both.1.0; result_bytes = both.1.1.0; count_bytes = both.1.1.1 }
