-- `listing::blocks::list_interval` meets its contract. What settling answers chooses the lines.
use mathlib.Core.Path.{sym, ap, subst, ◌∙◌}
use native.Mathlib.Omega.{arith}
use borrow.Author.Rules.{rules}
use Rattle.reading.specs.Values.{terms_in, header_in, Tabled}
use Rattle.settling.specs.Settling.{result_bytes}
use Rattle.settling.proofs.Accepted.{header_said, accepted}
use Rattle.listing.specs.Npalist.{result_buffer}
use Rattle.listing.proofs.BlockLaws.{interval_refused, interval_settled}
use Rattle.listing.proofs.blocks.list_interval.Goals as goal

pub returns-in-Err : goal.returns-in-Err
unfolding result_buffer
returns-in-Err g c =
    interval_refused _ _ _ _ c.settle_file.ensures.ledger_bytes c.in-Err.refusal _ _ _ c.in-Err.ensures.answer
    (c.from.ensures ∙ c.number.ensures) c.put_refused.ensures.puts

pub header_of-requires : goal.header_of-requires
header_of-requires g c = (accepted _ _ _ (sym c.in_default.ensures.answer)).passed.tabled.read.long

pub invariant_of-file : goal.invariant_of-file
unfolding header_in terms_in
invariant_of-file g c =
    let a = accepted _ _ _ (sym c.in_default.ensures.answer) in
    record { tabled = subst (Tabled c.args.file.now) (sym (ap header_said c.header_of.ensures)) a.passed.tabled }

pub put_row_lines-requires : goal.put_row_lines-requires
unfolding header_in
put_row_lines-requires g c =
    let a = accepted _ _ _ (sym c.in_default.ensures.answer) in
    let rows = ap (λ h. h.row_count) c.header_of.ensures in
    (search rules, (omega (arith, ap result_bytes rows, a.room), omega (arith, rows, a.passed.tabled.rows_few)))

pub put_pool_line-requires : goal.put_pool_line-requires
unfolding header_in result_bytes
put_pool_line-requires g c =
    let a = accepted _ _ _ (sym c.in_default.ensures.answer) in
    let rows = ap (λ h. h.row_count) c.header_of.ensures in
    (search rules, (omega (arith, a.room), omega (arith, rows, a.passed.tabled.rows_few)))

pub returns : goal.returns
unfolding header_in result_buffer
returns g c =
    interval_settled _ _ _ _ c.settle_file.ensures.ledger_bytes _ _ _ _ _ c.in_default.ensures.answer
    c.settle_file.ensures.result_bytes (ap (λ h. h.interval) c.header_of.ensures) c.put_row_lines.ensures.puts
    c.put_pool_line.ensures.puts
