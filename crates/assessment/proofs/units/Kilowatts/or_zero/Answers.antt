-- `assessment::units::Kilowatts::or_zero` meets its contract. The greater of a signed number and 0 is never negative.
use Rattle.std.proofs.Common.{arith, ℤ, pos, negsuc, ◌≡◌, refl}
use Rattle.std.proofs.lemmas.Int.{ints}
use Rattle.std.specs.Int.{int_max}
use mir.ValLaws.{to_z-of_z}
use lib.IntN.{nat_abs}
use Rattle.assessment.specs.Assessment.{or_zero}
use Rattle.assessment.proofs.units.Kilowatts.or_zero.Goals as goal

-- its size is the number, or 0 if that is negative
greater_zero : (z : ℤ) → nat_abs (int_max z (pos 0)) ≡ or_zero z
unfolding or_zero
greater_zero (pos n) = grind (arith, ints)
greater_zero (negsuc n) = refl

pub returns : goal.returns
returns c = grind (arith, to_z-of_z, greater_zero)
