-- `assessment::curve::last_reached` meets its contract. From point i on, none is priced at or below the LMP.
use Rattle.assessment.proofs.CurveLaws.{NoneFrom}
use Rattle.assessment.proofs.curve.last_reached.Given as goal

abbrev pub invariant-loop-i : goal.invariant-loop-i
invariant-loop-i l = NoneFrom l.lmp l.curve.count l.curve.points.now l.i
