-- `ledger::opening::accepted` meets its contract. The tests are made in the order of the grounds,
-- and the first that holds is answered.
use mathlib.Core.Path.{refl, sym, ap, ◌∙◌}
use native.Mathlib.Omega.{arith}
use Rattle.reading.proofs.Facts.{block_has_header}
use Rattle.ledger.specs.Ledger.{ledger_bytes}
use Rattle.ledger.proofs.OpeningLaws.{opening_5, opening_0}
use Rattle.ledger.proofs.opening.accepted.Goals as goal

pub block_of-b-requires : goal.block_of-b-requires
block_of-b-requires c = block_has_header _ (sym c.not_a_block.ensures ∙ c.if-not_a_block.false)

pub ledger_bytes-requires : goal.ledger_bytes-requires
unfolding ledger_bytes
ledger_bytes-requires c =
    omega (arith, c.in-Some.listed.listed.few, ap (λ b. b.ids) c.in-Some.ensures.2)

pub returns-then-ledger-ledger_bytes-clause-answer : goal.returns-then-ledger-ledger_bytes-clause-answer
returns-then-ledger-ledger_bytes-clause-answer c =
    opening_5 _ _ c.not_a_block.ensures c.if-not_a_block.false _ c.block_of-b.ensures c.terms_outside.ensures
    c.if-terms_outside.false c.year_unknown.ensures c.if-year_unknown.false refl c.in-Some.ensures.0
    (rw c.in-Some.ensures.1 at c.ids_out_of_order.ensures) c.if-ids_out_of_order.false c.ledger_bytes.ensures
    c.if-ledger-ledger_bytes.true

pub returns-clause-answer : goal.returns-clause-answer
returns-clause-answer c =
    opening_0 _ _ c.not_a_block.ensures c.if-not_a_block.false _ c.block_of-b.ensures c.terms_outside.ensures
    c.if-terms_outside.false c.year_unknown.ensures c.if-year_unknown.false refl c.in-Some.ensures.0
    (rw c.in-Some.ensures.1 at c.ids_out_of_order.ensures) c.if-ids_out_of_order.false c.ledger_bytes.ensures
    c.if-ledger-ledger_bytes.false
