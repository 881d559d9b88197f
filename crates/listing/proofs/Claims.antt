-- The proof of what specs/Claims.antt states.
use mathlib.Core.Path.{ap}
use mathlib.Core.List.{◌++◌}
use Rattle.stream.specs.Claims.{ReadingIsEnough}
use Rattle.stream.proofs.Claims.{reading_is_enough}
use Rattle.listing.specs.Lines.{heading, bytes_of_lines}
use Rattle.listing.specs.Npalist.{ledger_buffer, listing_steps, listed, npalist}
use Rattle.listing.specs.Claims.{StepsPrintTheListing}

-- the heading and the steps are what npalist prints
pub steps_print_the_listing : StepsPrintTheListing
unfolding StepsPrintTheListing npalist listed ReadingIsEnough
steps_print_the_listing budget stream h =
    ap (λ o. heading ++ bytes_of_lines o.printed) (reading_is_enough _ _ listing_steps budget 0 ledger_buffer stream h)
