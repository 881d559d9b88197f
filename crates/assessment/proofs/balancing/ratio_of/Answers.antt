-- `assessment::balancing::ratio_of` meets its contract. What is left to add is the shares of the rows from i on.
use Rattle.std.proofs.Common.{ap, ◌∙◌}
use Rattle.reading.specs.Interval.{row_with, row_of}
use Rattle.reading.specs.Values.{row_in}
use Rattle.assessment.specs.Assessment.{numerator_share}
use Rattle.assessment.specs.Values.{ratio_in}
use Rattle.assessment.proofs.SumLaws.{summed_start, summed_turn, summed_end}
use Rattle.assessment.proofs.balancing.ratio_of.Goals as goal

pub loop-i-init : goal.loop-i-init
loop-i-init c =
    summed_start c.import_share-numerator.ensures.result_value c.import_share-numerator.ensures.result_le_most_imports

pub loop-i-preserved : goal.loop-i-preserved
unfolding row_of row_with
loop-i-preserved c =
    let file = c.args.scanned.now.file in
    let w = row_in c.row-row.result.words in
    let above = c.numerator_share.ensures in
    let below = c.denominator_share.ensures in
    let is = above.result_value
    ∙ ap (λ file. numerator_share file.header.region_wide (row_of file.bytes.now w)) c.row-row.ensures.file in
    let shares = summed_turn file.tabled.read c.loop-i.invariant c.loop-i-test.true c.row-row.ensures.words in
    rw (c.plus-numerator.ensures, c.plus-denominator.ensures)
    (shares _ _ is above.result_le_most_actual
    (below.result_value (row_of file.bytes.now w).schedules) below.result_le_most_kilowatts)

pub returns : goal.returns
unfolding ratio_in
returns c = summed_end c.args.scanned.now.file.tabled c.loop-i.invariant c.loop-i-test.false
