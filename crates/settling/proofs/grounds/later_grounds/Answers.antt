-- `settling::grounds::later_grounds` meets its contract. Each return is the first ground whose test holds.
use mathlib.Core.Path.{refl}
use native.Mathlib.Omega.{arith}
use Rattle.settling.proofs.SettlingTests.{later_11, later_15, later_0}
use Rattle.settling.proofs.grounds.later_grounds.Goals as goal

pub returns-in_default-clause-answer : goal.returns-in_default-clause-answer
returns-in_default-clause-answer c =
    later_11 _ _ _ c.args.ledger.read c.requires c.other_terms.ensures c.if-other_terms.false c.header_outside.ensures
    c.if-header_outside.false (omega arith) refl c.in_default.ensures

pub returns-then-res-result_bytes-clause-answer : goal.returns-then-res-result_bytes-clause-answer
returns-then-res-result_bytes-clause-answer c =
    let file = c.in-Some.ensures.1 in
    later_15 _ _ _ c.args.ledger.read c.requires c.other_terms.ensures c.if-other_terms.false c.header_outside.ensures
    c.if-header_outside.false (omega arith) refl c.in-Some.ensures.0 (rw file at c.row_ids_unknown.ensures)
    c.if-row_ids_unknown.false (rw file at c.in_ok-scanned.ensures.answer) refl c.result_bytes.ensures
    c.if-res-result_bytes.true

pub returns-clause-answer : goal.returns-clause-answer
returns-clause-answer c =
    let file = c.in-Some.ensures.1 in
    later_0 _ _ _ c.args.ledger.read c.requires c.other_terms.ensures c.if-other_terms.false c.header_outside.ensures
    c.if-header_outside.false (omega arith) refl c.in-Some.ensures.0 (rw file at c.row_ids_unknown.ensures)
    c.if-row_ids_unknown.false (rw file at c.in_ok-scanned.ensures.answer) refl c.result_bytes.ensures
    c.if-res-result_bytes.false
