-- `page::lines::row_of` meets its contract. What is left is the place of the id among the rows from i on.
use mathlib.Core.Path.{sym, ◌∙◌}
use native.Mathlib.Omega.{arith}
use Rattle.reading.specs.Values.{row_in}
use Rattle.page.proofs.RowLaws.{place_start, place_here, place_next, place_end}
use Rattle.page.proofs.lines.row_of.Goals as goal

pub loop-i-init : goal.loop-i-init
loop-i-init c = place_start _ _

pub returns-then-row-id : goal.returns-then-row-id
unfolding row_in
returns-then-row-id c =
    let read = c.args.file.now.tabled.read in
    let here = place_here _ _ read _ c.loop-i-test.true c.row-row.ensures.words c.if-row-id.true in
    (sym (c.loop-i.invariant ∙ here), c.loop-i-test.true)

pub loop-i-preserved : goal.loop-i-preserved
unfolding row_in
loop-i-preserved c =
    let read = c.args.file.now.tabled.read in
    c.loop-i.invariant ∙ place_next _ _ read _ c.loop-i-test.true c.row-row.ensures.words c.if-row-id.false

pub returns : goal.returns
returns c =
    let file = c.args.file.now in
    let past = place_end file.bytes.now c.args.id file.tabled.read c.loop-i.i c.loop-i-test.false in
    omega (arith, c.loop-i.invariant ∙ past)
