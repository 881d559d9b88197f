-- `assessment::curve::scheduled` meets its contract. Each way is the case of the definition that its tests choose.
use Rattle.std.proofs.Common.{◌≡◌, min, max, arith, rules, FitsSigned, w64, ◌∙◌}
use mir.ValLaws.{to_z-of_z}
use Rattle.reading.specs.Interval.{row_with}
use Rattle.reading.specs.Values.{row_in}
use Rattle.assessment.proofs.CurveLaws.{scheduled_below, scheduled_above, scheduled_along}
use Rattle.assessment.proofs.curve.scheduled.Goals as goal

pub returns-then-lmp-point : goal.returns-then-lmp-point
unfolding row_with row_in
returns-then-lmp-point c ss =
    let below = scheduled_below _ _ c.args.row ss c.requires _ c.point.ensures.value in
    grind (arith, to_z-of_z, c.minimum_online-least.ensures ss, below)

pub returns-then-point-lmp : goal.returns-then-point-lmp
unfolding row_with row_in
returns-then-point-lmp c ss =
    let first = c.point.ensures.value in
    grind (arith, to_z-of_z, scheduled_above _ _ c.args.row ss c.requires _ first _ c.point-2.ensures.value)

pub returns : goal.returns
unfolding row_with row_in
returns c ss =
    let lmp : FitsSigned w64 c.args.row.lmp = search rules in
    let first : FitsSigned w64 c.point.result.price = search rules in
    let last : FitsSigned w64 c.point-2.result.price = search rules in
    let least = c.minimum_online-least.result.0 in
    let kept : c.min.result.0 ≡ min (max c.on_curve.result.0 least) c.args.row.maximum = search rules in
    let reached = simp to_z-of_z at c.if-lmp-point.false in
    let not_above = simp to_z-of_z at c.if-point-lmp.false in
    let kw = simp to_z-of_z at c.on_curve.ensures in
    kept
    ∙ scheduled_along _ _ c.args.row ss c.requires _ c.point.ensures.value _ c.point-2.ensures.value
    reached not_above _ _ kw (c.minimum_online-least.ensures ss)
