-- What is proved of the steps that npalist takes; proofs/Claims.antt has the proof.
use Rattle.std.specs.Prelude.{ℕ, ◌<◌, ◌≡◌, List, ◌++◌, length}
use Rattle.stream.specs.Claims.{reading_steps}
use Rattle.listing.specs.Lines.{heading, bytes_of_lines}
use Rattle.listing.specs.Npalist.{ledger_buffer, listing_steps, npalist}

-- The heading, and then steps that each read a length and the bytes due after it, are what npalist prints,
-- for every stream of fewer bytes than there are steps
unfoldable pub StepsPrintTheListing : Type 0
StepsPrintTheListing = (budget : ℕ) (stream : List ℕ) → length stream < budget
    → heading ++ bytes_of_lines (reading_steps listing_steps budget 0 ledger_buffer stream).printed ≡ npalist stream
