-- `assessment::curve::on_curve` meets its contract. The last point reached, and the next if there is one, decide.
use Rattle.std.proofs.Common.{arith}
use Rattle.assessment.proofs.CurveLaws.{along_last}
use Rattle.assessment.proofs.curve.on_curve.Goals as goal

pub returns-then-i-curve : goal.returns-then-i-curve
returns-then-i-curve c = grind (arith, along_last c.in-Some.ensures (omega arith) _ c.point-last.ensures.value)
