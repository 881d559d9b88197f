-- `page::steps::page_row` meets its contract. The line is that of the part of the result that the row begins.
use mathlib.Core.Path.{ap, ◌∙◌}
use native.Mathlib.Omega.{arith}
use borrow.Author.Rules.{rules}
use lib.ListN.{length, length-drop}
use Rattle.settling.specs.Settling.{result_bytes}
use Rattle.page.proofs.steps.page_row.Goals as goal

pub row_part-requires-clause-i_in_bounds : goal.row_part-requires-clause-i_in_bounds
unfolding result_bytes
row_part-requires-clause-i_in_bounds g c = omega (arith, c.requires.row_in_result)

pub put_row_line-requires : goal.put_row_line-requires
unfolding result_bytes
put_row_line-requires g c =
    let part = ap length c.row_part.ensures ∙ length-drop (result_bytes c.args.i) c.args.res.now in
    (search rules, (omega (arith, part, c.requires.row_in_result), c.requires.room))
