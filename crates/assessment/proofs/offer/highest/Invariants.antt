-- `assessment::offer::highest` meets its contract. What is left to look at is the schedules from k on.
use Rattle.reading.specs.Kinds.{schedule_kind_number}
use Rattle.assessment.specs.Values.{row_said}
use Rattle.assessment.proofs.ScheduleLaws.{Highest}
use Rattle.assessment.proofs.offer.highest.Given as goal

abbrev pub invariant-loop-k : goal.invariant-loop-k
invariant-loop-k l = Highest (row_said l.row) (schedule_kind_number l.on) l.k l.most.0
