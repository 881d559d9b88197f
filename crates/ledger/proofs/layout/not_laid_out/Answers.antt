-- `ledger::layout::not_laid_out` meets its contract. The length, then words 0 and 6.
use mathlib.Core.Path.{sym}
use native.Mathlib.Omega.{arith}
use Rattle.ledger.proofs.LayoutLaws.{header_short, format_other, offset_decides}
use Rattle.ledger.proofs.layout.not_laid_out.Goals as goal

pub returns-then-ledger-lt-STANDING_BYTES : goal.returns-then-ledger-lt-STANDING_BYTES
returns-then-ledger-lt-STANDING_BYTES c = sym (header_short c.args.ledger.now c.if-ledger-lt-STANDING_BYTES.true)

pub returns-then-number-ne-LEDGER_FORMAT : goal.returns-then-number-ne-LEDGER_FORMAT
returns-then-number-ne-LEDGER_FORMAT c =
    let b = c.args.ledger.now in
    sym
    (format_other b (omega arith) _ c.number.ensures.value c.if-number-ne-LEDGER_FORMAT.true)

pub returns : goal.returns
returns c =
    let b = c.args.ledger.now in
    sym (offset_decides b (omega arith)
    _ c.number.ensures.value c.if-number-ne-LEDGER_FORMAT.false _ c.number-2.ensures.value)
