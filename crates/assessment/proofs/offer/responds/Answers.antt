-- `assessment::offer::responds` meets its contract. The curve that is handed out is the one dispatched on.
use Rattle.std.proofs.Common.{arith}
use mir.ValLaws.{to_z-of_z}
use Rattle.reading.specs.Interval.{row_with, row_of}
use Rattle.reading.specs.Values.{row_in}
use Rattle.assessment.specs.Assessment.{from_last_reached, first_kw}
use Rattle.assessment.proofs.ScheduleLaws.{no_curve, dispatched_points}
use Rattle.assessment.proofs.offer.responds.Goals as goal

pub returns-in-None : goal.returns-in-None
unfolding from_last_reached first_kw
returns-in-None c = rw (no_curve _ _ c.in-None.ensures)

pub returns-in-Some : goal.returns-in-Some
unfolding row_of row_with row_in
returns-in-Some c =
    let curve = c.curve.ensures in
    grind (arith, to_z-of_z, dispatched_points _ c.in-Some.on curve.part curve.count c.in-Some.ensures.0)
