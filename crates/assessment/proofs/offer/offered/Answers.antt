-- `assessment::offer::offered` meets its contract. The curve that is handed out is the one dispatched on.
use Rattle.std.proofs.Common.{◌∙◌}
use Rattle.reading.specs.Interval.{row_with, row_of}
use Rattle.reading.specs.Values.{row_in}
use Rattle.assessment.specs.Values.{row_said}
use Rattle.assessment.proofs.ScheduleLaws.{cut_unnamed, economic_unnamed, dispatched_scheduled, dispatched_cut}
use Rattle.assessment.proofs.offer.offered.Goals as goal

pub returns-in_default-clause-cut_value : goal.returns-in_default-clause-cut_value
unfolding row_of row_with
returns-in_default-clause-cut_value c =
    c.available.ensures (row_said c.args.row.now).schedules ∙ cut_unnamed _ _ c.in_default.ensures

pub returns-in_default-clause-economic_value : goal.returns-in_default-clause-economic_value
unfolding row_of row_with row_in
returns-in_default-clause-economic_value c = economic_unnamed _ _ c.in_default.ensures

pub highest-requires-clause-own_value : goal.highest-requires-clause-own_value
highest-requires-clause-own_value c =
    let curve = c.curve.ensures in
    dispatched_scheduled _ c.in-Some.on curve.part curve.count c.in-Some.ensures.0 c.scheduled-own.ensures

pub returns-clause-cut_value : goal.returns-clause-cut_value
returns-clause-cut_value c =
    let curve = c.curve.ensures in
    let on = c.in-Some.ensures in
    dispatched_cut _ c.in-Some.on curve.part curve.count on.0 on.2 c.scheduled-own.ensures
