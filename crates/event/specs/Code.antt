-- What the code's answers mean.
use Rattle.std.specs.Prelude.{ℕ, ◌≤◌, ◌≡◌, List, length, Option, None, Some, Result, Ok, Err, IfOk}
use denote.Ref.{Bor}
use Rattle.words.specs.Refusals.{answer_of}
use Rattle.words.specs.declared.refusal.Refusal.{Refusal}
use Rattle.words.specs.declared.refusal.Refusal.TheVariants.{FileCut}
use Rattle.stream.specs.Stream.{End, Next, next_block}
use Rattle.reading.specs.Interval.{header_of}
use Rattle.settling.specs.Settling.{result_bytes, settling}
use Rattle.event.specs.Event.{most_length, Settled}
use Rattle.event.specs.declared.Files.{Files}

-- a file is at the front of a buffer, after its length and before what follows it, or it is cut
abbrev pub FileDue : List ℕ → Result (Bor (List ℕ) × Bor (List ℕ)) Refusal → Type 0
FileDue files (Ok (file, rest)) = next_block most_length files ≡ Next.block file.now rest.now
FileDue files (Err refusal) = (next_block most_length files ≡ Next.stop End.cut) × (refusal ≡ FileCut)

-- the next file is taken from the front of what is left, or it is cut, or none is left
abbrev pub GivesFile : Files → Option (Result (Bor (List ℕ)) Refusal) → Files → Type 0
GivesFile old None new = next_block most_length old.rest.now ≡ Next.stop End.ended
GivesFile old (Some (Ok file)) new = next_block most_length old.rest.now ≡ Next.block file.now new.rest.now
GivesFile old (Some (Err refusal)) new = (next_block most_length old.rest.now ≡ Next.stop End.cut) × (refusal ≡ FileCut)

-- a turn as code takes it: a file settled into a result, and how much of that it fills
pub record TurnTaken (ledger file result ledger_after result_after : List ℕ) (r : Result ℕ Refusal) : Type 0 where
  pub refusal : answer_of r ≡ (settling ledger file result).refusal
  pub leaves : ledger_after ≡ (settling ledger file result).ledger
  pub puts : result_after ≡ (settling ledger file result).result
  pub fills : IfOk r (λ n. n ≡ result_bytes (header_of file).row_count)
  pub within : IfOk r (λ n. n ≤ length result_after)

-- files as code settles them
pub record FilesSettled (s : Settled) (ledger result : List ℕ) (settled : ℕ) (r : Result (Unit {0}) Refusal)
    : Type 0 where
  pub refusal : answer_of r ≡ s.refusal
  pub leaves : ledger ≡ s.ledger
  pub puts : result ≡ s.result
  pub files : settled ≡ s.files
