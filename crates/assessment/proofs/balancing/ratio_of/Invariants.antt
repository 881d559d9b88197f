-- `assessment::balancing::ratio_of` meets its contract. What is left to add is the shares of the rows from i on.
use Rattle.assessment.proofs.SumLaws.{Summed}
use Rattle.assessment.proofs.balancing.ratio_of.Given as goal

abbrev pub invariant-loop-i : goal.invariant-loop-i
invariant-loop-i l =
    let file = l.scanned.file in Summed file.bytes.now file.header l.i l.numerator.0 l.denominator.0
