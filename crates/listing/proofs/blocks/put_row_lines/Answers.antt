-- `listing::blocks::put_row_lines` meets its contract. What is left to put is the lines of the rows from i on.
use mathlib.Core.Path.{sym, ap, ◌∙◌}
use mathlib.Core.List.{◌++◌, append-nil}
use native.Mathlib.Omega.{arith}
use borrow.Author.Rules.{rules}
use lib.ListN.{length, drop, length-drop}
use Rattle.reading.specs.Interval.{rows_of}
use Rattle.reading.specs.Values.{header_in, row_in}
use Rattle.reading.proofs.Facts.{row_count_lem}
use Rattle.settling.specs.Settling.{result_header_bytes, result_bytes}
use Rattle.listing.specs.Lines.{bytes_of_lines}
use Rattle.listing.specs.Npalist.{row_lines}
use Rattle.listing.proofs.LineLaws.{put_rest}
use Rattle.listing.proofs.BlockLaws.{lines_start, bytes_turn, lines_end}
use Rattle.listing.proofs.blocks.put_row_lines.Goals as goal

pub loop-i-init : goal.loop-i-init
unfolding header_in
loop-i-init g c =
    let f = c.args.file.now.bytes.now in
    let r = c.args.res.now in
    let start = ap bytes_of_lines (sym (lines_start f r c.args.file.now.header.interval)) in
    let said = ap (λ h. bytes_of_lines (row_lines h.interval (rows_of f) (drop result_header_bytes r)))
    c.args.file.now.tabled.read.says in
    record { left = ap (λ l. c.args.out.now.items ++ l) (start ∙ said); room = omega arith }

pub row_part-requires-clause-i_in_bounds : goal.row_part-requires-clause-i_in_bounds
unfolding result_bytes
row_part-requires-clause-i_in_bounds g c = omega (arith, c.requires.rows_in_result)

pub put_row_line-requires : goal.put_row_line-requires
unfolding result_bytes
put_row_line-requires g c =
    let part = ap length c.row_part.ensures ∙ length-drop (result_bytes c.loop-i.i) c.args.res.now in
    (search rules, (omega (arith, part, c.requires.rows_in_result), omega arith))

pub loop-i-preserved : goal.loop-i-preserved
unfolding row_in
loop-i-preserved g c =
    let count = row_count_lem c.args.file.now.tabled.read in
    record {
      left = put_rest _ _ _ _ _ _ c.put_row_line.ensures.puts
          (bytes_turn c.args.file.now.bytes.now c.args.res.now c.args.file.now.header.interval c.loop-i.i
          (row_in c.row-row.result) _ (omega (arith, count)) c.row-row.ensures.words c.row_part.ensures)
          c.loop-i.invariant.left;
      room = omega arith;
    }

pub returns : goal.returns
returns g c =
    let count = row_count_lem c.args.file.now.tabled.read in
    let file = c.args.file.now in
    let none = lines_end file.bytes.now c.args.res.now file.header.interval c.loop-i.i (omega (arith, count)) in
    record {
      puts = sym (append-nil c.loop-i.out.items) ∙ ap (λ l. c.loop-i.out.items ++ l) (sym none)
          ∙ c.loop-i.invariant.left;
      fits = omega arith;
    }
