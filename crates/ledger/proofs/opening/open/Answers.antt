-- `ledger::opening::open` meets its contract. A refusal writes nothing; otherwise the ledger is written.
use mathlib.Core.Path.{sym}
use Rattle.std.proofs.lemmas.Result.{err_from_is_err_and}
use Rattle.words.proofs.Refusals.{ground_some}
use Rattle.ledger.proofs.OpeningLaws.{opening_refused, opening_done, accepted_room}
use Rattle.ledger.proofs.opening.open.Goals as goal

pub returns-in_err-listed : goal.returns-in_err-listed
returns-in_err-listed c =
    let p = err_from_is_err_and c.from_residual.result c.from_residual.ensures.1 in
    let both = opening_refused _ _ _ c.in_err-listed.ensures.answer (ground_some c.in_err-listed.field-0.0) in
    rw (p.1, p.2) (record { answer = both.0; buffer = both.1 })

pub write_opened-requires : goal.write_opened-requires
write_opened-requires c =
    let accepting = c.in_ok-listed.ensures in
    accepted_room _ _ _ (sym accepting.answer) (rw accepting.bytes at c.in_ok-listed.listed.listed.read.says)

pub returns : goal.returns
returns c =
    let accepted = c.in_ok-listed.ensures in
    let both = opening_done _ _ _ (sym accepted.answer) (rw accepted.bytes at c.write_opened.ensures) in
    record { answer = both.0; buffer = both.1 }
