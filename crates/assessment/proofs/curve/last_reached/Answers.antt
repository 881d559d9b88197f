-- `assessment::curve::last_reached` meets its contract. The search goes down: from point i on, none is reached.
use Rattle.std.proofs.Common.{arith, rules, w64, FitsSigned}
use mir.ValLaws.{to_z-of_z}
use Rattle.assessment.proofs.CurveLaws.{reached_last}
use Rattle.assessment.proofs.curve.last_reached.Goals as goal

pub returns-then-point-lmp : goal.returns-then-point-lmp
returns-then-point-lmp c =
    let price : FitsSigned w64 c.point.result.price = search rules in
    let lmp = c.ranges.lmp in
    let none = simp to_z-of_z at c.loop-i.invariant in
    let reached = simp to_z-of_z at c.if-point-lmp.true in
    reached_last _ _ _ c.loop-i.i _ _ (omega arith) (omega arith) none c.point.ensures.value reached
