-- What is proved of an event by itself; crates/year/specs/Claims.antt has what it is as calls of settling.
use Rattle.std.specs.Prelude.{ℕ, ◌+◌, ◌<◌, ◌≡◌, List, length}
use Rattle.stream.specs.Stream.{Next}
use Rattle.event.specs.Event.{Settled, turn, settled_files}

-- A budget of more turns than the buffer has bytes is never used up
unfoldable pub TurnsAreEnough : Type 0
TurnsAreEnough =
    (budget : ℕ) (ledger files result : List ℕ) → length files < budget
    → settled_files budget ledger files result ≡ settled_files (length files + 1) ledger files result

-- A turn in which no file is settled, at a length that runs past the buffer too, changes no byte of ledger or result
unfoldable pub RefusedTurn : Type 0
RefusedTurn =
    (later : List ℕ → List ℕ → List ℕ → Settled) (ledger result : List ℕ) (n : Next)
    → (turn later ledger result n).files ≡ 0
    → ((turn later ledger result n).ledger ≡ ledger) × ((turn later ledger result n).result ≡ result)
