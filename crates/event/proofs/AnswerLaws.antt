-- The laws of an event's answer: by whether the count buffer has room.
use Prim.Native.Nat.{ℕ, ◌+◌, ◌≤◌, ◌<◌}
use mathlib.Core.Path.{◌≡◌, sym, ap, ◌∙◌}
use mathlib.Core.List.{List, [], ◌∷◌}
use lib.ListN.{length}
use borrow.Author.Tests.{lt-ltb, le-ltb}
use Rattle.std.specs.Prelude.{Result}
use Rattle.words.specs.Words.{written, written_at}
use Rattle.words.specs.Refusals.{answer_of}
use Rattle.words.specs.declared.refusal.Refusal.{Refusal}
use Rattle.event.specs.Event.{count_bytes, count_too_short, Settled, settled_files, event}
use Rattle.event.specs.Code.{FilesSettled}

module _ (ledger files result count : List ℕ) where
  -- what the files leave
  abbrev s : Settled
  s = settled_files (length files + 1) ledger files result

  -- without room nothing is written
  pub no_room : length count < count_bytes → event ledger files result count
      ≡ record { refusal = count_too_short; ledger = ledger; result = result; count = count }
  unfolding event
  no_room short = rw (lt-ltb (length count) count_bytes short)

  -- with room the number of files settled is written to its front
  pub with_room : count_bytes ≤ length count
      → event ledger files result count
      ≡ record { refusal = s.refusal; ledger = s.ledger; result = s.result; count = written (s.files ∷ []) count }
  unfolding event
  with_room room = rw (le-ltb (length count) count_bytes room)

  -- without room, the answer and the buffers
  pub short_answer : length count < count_bytes → let e = event ledger files result count in
      (count_too_short ≡ e.refusal) × ((ledger ≡ e.ledger) × ((result ≡ e.result) × (count ≡ e.count)))
  short_answer short =
      let is = sym (no_room short) in
      (ap (λ e. e.refusal) is, (ap (λ e. e.ledger) is, (ap (λ e. e.result) is, ap (λ e. e.count) is)))

  -- with room, the answer and the buffers, once the number is written
  pub long_answer : (after put counted : List ℕ) (number : ℕ) (r : Result (Unit {0}) Refusal)
      → count_bytes ≤ length count → FilesSettled s after put number r
      → counted ≡ written_at 0 (number ∷ []) count
      → let e = event ledger files result count in
      (answer_of r ≡ e.refusal) × ((after ≡ e.ledger) × ((put ≡ e.result) × (counted ≡ e.count)))
  unfolding written_at
  long_answer after put counted number r room settled writes =
      let is = sym (with_room room) in (
        settled.refusal ∙ ap (λ e. e.refusal) is,
        (
          settled.leaves ∙ ap (λ e. e.ledger) is,
          (
            settled.puts ∙ ap (λ e. e.result) is,
            writes ∙ ap (λ n. written (n ∷ []) count) settled.files ∙ ap (λ e. e.count) is,
          ),
        ),
      )
