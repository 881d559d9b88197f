-- The laws of files in order: what is left of an event after some of them.
use Prim.Native.Nat.{ℕ, suc, ◌+◌, ◌-◌, ◌≤◌}
use mathlib.Core.Path.{◌≡◌, sym, ap, ap₂, subst, ◌∙◌}
use mathlib.Core.List.{List, [], ◌++◌, append_assoc}
use mathlib.Core.Bool.{cond}
use native.Mathlib.Nat.{zero-add, add-zero}
use native.Mathlib.Omega.{arith}
use lib.ListN.{length, take, drop, length-append, take-append-drop}
use lib.Seq.{length-take-le, take-append-add, drop-append-add}
use borrow.Author.Tests.{eq-eqb, ne_eqb}
use borrow.Author.Rules.{part_to_end}
use borrow.Rule.Slice.PartMut.{put_mid}
use Rattle.std.specs.Prelude.{Result, Ok, Err}
use Rattle.words.specs.Refusals.{answer_of}
use Rattle.words.specs.declared.refusal.Refusal.{Refusal}
use Rattle.words.specs.declared.refusal.Refusal.TheVariants.{FileCut}
use Rattle.words.proofs.Refusals.{ground_some}
use Rattle.stream.specs.Stream.{End, Next, next_block}
use Rattle.stream.proofs.Laws.{rest_left}
use Rattle.reading.specs.Interval.{header_of}
use Rattle.settling.specs.Settling.{result_bytes, settling}
use Rattle.event.specs.Event.{most_length, Settled, no_file, one_file, turn, settled_files}
use Rattle.event.specs.Code.{TurnTaken, FilesSettled}
use Rattle.event.specs.Claims.{TurnsAreEnough}
use Rattle.event.proofs.Claims.{turns_are_enough}
use Rattle.event.proofs.FileLaws.{put_back}

-- what later files leave, after so many whose results stand in front
unfoldable pub prefixed : ℕ → List ℕ → Settled → Settled
prefixed n front s =
    record { refusal = s.refusal; ledger = s.ledger; result = front ++ s.result; files = n + s.files }

-- nothing stands before all that is left
from_none : (s : Settled) → s ≡ prefixed 0 [] s
unfolding prefixed
from_none s =
    λ i. record { refusal = s.refusal; ledger = s.ledger; result = s.result; files = sym (zero-add s.files) i }

-- one file more stands before what is left
prefixed_one : (n : ℕ) (front part : List ℕ) (later : Settled)
    → prefixed n front (one_file part later) ≡ prefixed (n + 1) (front ++ part) later
unfolding prefixed one_file
prefixed_one n front part later =
    let more : n + (later.files + 1) ≡ n + 1 + later.files = omega arith in
    let results = sym (append_assoc front part later.result) in
    λ i. record { refusal = later.refusal; ledger = later.ledger; result = results i; files = more i }

-- an event after some files: how many are settled, how far the result is filled, and what is left to do
pub record Going (whole : Settled) (bytes : ℕ) (rest ledger result : List ℕ) (settled filled : ℕ) : Type 0 where
  pub filled_within : filled ≤ length result
  pub few : settled + length rest ≤ bytes
  pub left : whole
      ≡ prefixed settled (take filled result) (settled_files (length rest + 1) ledger rest (drop filled result))

-- before any file
pub going_start : (files ledger result : List ℕ)
    → Going (settled_files (length files + 1) ledger files result) (length files) files ledger result 0 0
going_start files ledger result = record {
  filled_within = omega arith;
  few = omega arith;
  left = from_none (settled_files (length files + 1) ledger files result);
}

-- an event that goes on
module _ {whole : Settled} {bytes : ℕ} {rest ledger result : List ℕ} {settled filled : ℕ}
    (g : Going whole bytes rest ledger result settled filled) where
  -- the results so far
  abbrev front : List ℕ
  front = take filled result

  -- the room behind them
  abbrev room : List ℕ
  room = drop filled result

  -- the turn of what comes next
  next_turn : (n : Next) → next_block most_length rest ≡ n
      → whole ≡ prefixed settled front (turn (settled_files (length rest)) ledger room n)
  unfolding settled_files
  next_turn n is =
      let budget : length rest + 1 ≡ suc (length rest) = omega arith in
      g.left
      ∙ ap (λ b. prefixed settled front (settled_files b ledger rest room)) budget
      ∙ ap (λ n. prefixed settled front (turn (settled_files (length rest)) ledger room n)) is

  -- where it is a stop, that is the end
  stopped : (r : Result (Unit {0}) Refusal)
      → whole ≡ prefixed settled front (no_file (answer_of r) ledger room)
      → FilesSettled whole ledger result settled r
  unfolding prefixed no_file
  stopped r is = record {
    refusal = sym (ap (λ s. s.refusal) is);
    leaves = sym (ap (λ s. s.ledger) is);
    puts = sym (take-append-drop filled result) ∙ sym (ap (λ s. s.result) is);
    files = sym (add-zero settled) ∙ sym (ap (λ s. s.files) is);
  }

  -- no byte is left
  pub going_end : next_block most_length rest ≡ Next.stop End.ended → FilesSettled whole ledger result settled (Ok tt)
  unfolding turn
  going_end is = stopped (Ok tt) (next_turn (Next.stop End.ended) is)

  -- a length runs past the buffer
  pub going_cut : next_block most_length rest ≡ Next.stop End.cut
      → FilesSettled whole ledger result settled (Err FileCut)
  unfolding turn
  going_cut is = stopped (Err FileCut) (next_turn (Next.stop End.cut) is)

  -- a file whose turn comes, settled into what is left of the result
  module _ (file later ledger_after part : List ℕ) (is : next_block most_length rest ≡ Next.block file later) where
    -- the result with that put back
    abbrev result_after : List ℕ
    result_after = put_mid filled (length result - filled) result part

    -- the turn of the file
    abbrev Turned : Result ℕ Refusal → Type 0
    Turned = TurnTaken ledger file (take (length result - filled) room) ledger_after part

    -- what is left of the result is lent whole
    lent_whole : (r : Result ℕ Refusal) → Turned r → TurnTaken ledger file room ledger_after part r
    lent_whole r = subst (λ b. TurnTaken ledger file b ledger_after part r) (part_to_end result filled)

    -- the event, by its turn
    by_turn : whole ≡ prefixed settled front (turn (settled_files (length rest)) ledger room (Next.block file later))
    by_turn = next_turn (Next.block file later) is

    -- that is refused ends the event
    pub going_refused : (refusal : Refusal) → Turned (Err refusal)
        → FilesSettled whole ledger_after result_after settled (Err refusal)
    unfolding turn prefixed no_file
    going_refused refusal turned =
        let taken = lent_whole (Err refusal) turned in
        let a = settling ledger file room in
        let n = result_bytes (header_of file).row_count in
        let off = ne_eqb a.refusal 0 (λ z. ground_some refusal (taken.refusal ∙ z)) in
        let ends : whole ≡ prefixed settled front (no_file a.refusal a.ledger a.result) =
        by_turn ∙ ap (λ u. prefixed settled front (cond u
        (one_file (take n a.result) (settled_files (length rest) a.ledger later (drop n a.result)))
        (no_file a.refusal a.ledger a.result))) off
        in
        record {
          refusal = taken.refusal ∙ sym (ap (λ s. s.refusal) ends);
          leaves = taken.leaves ∙ sym (ap (λ s. s.ledger) ends);
          puts = put_back filled result part ∙ ap (λ p. front ++ p) taken.puts ∙ sym (ap (λ s. s.result) ends);
          files = sym (add-zero settled) ∙ sym (ap (λ s. s.files) ends);
        }

    -- that is settled goes on with the next
    pub going_on : (n : ℕ) → Turned (Ok n)
        → Going whole bytes later ledger_after result_after (settled + 1) (filled + n)
    unfolding turn prefixed one_file TurnsAreEnough
    going_on n turned =
        let taken = lent_whole (Ok n) turned in
        let a = settling ledger file room in
        let m = result_bytes (header_of file).row_count in
        let on = eq-eqb a.refusal 0 (sym taken.refusal) in
        let shorter = (rest_left most_length rest file later is).1 in
        let last = settled_files (length rest) a.ledger later (drop m a.result) in
        let refused = no_file a.refusal a.ledger a.result in
        let goes : whole ≡ prefixed settled front (one_file (take m a.result) last) =
        by_turn ∙ ap (λ u. prefixed settled front (cond u (one_file (take m a.result) last) refused)) on in
        let back = put_back filled result part in
        let long : length front ≡ filled = length-take-le filled result g.filled_within in
        let place : filled + n ≡ length front + m = omega (arith, taken.fills, long) in
        let puts : result_after ≡ front ++ a.result =
        back ∙ ap (λ p. front ++ p) taken.puts in
        let front_is : front ++ take m a.result ≡ take (filled + n) result_after =
        sym (ap₂ (λ k b. take k b) place puts ∙ take-append-add front a.result m) in
        let back_is : drop m a.result ≡ drop (filled + n) result_after =
        sym (ap₂ (λ k b. drop k b) place puts ∙ drop-append-add front a.result m) in
        let last_is : last ≡ settled_files (length later + 1) ledger_after later (drop (filled + n) result_after) =
        turns_are_enough (length rest) a.ledger later (drop m a.result) shorter
        ∙ ap₂ (λ l r. settled_files (length later + 1) l later r) (sym taken.leaves) back_is in
        record {
          filled_within = omega (arith, ap length back, length-append front part, long, taken.within);
          few = omega (arith, g.few, shorter);
          left =
              goes ∙ prefixed_one settled front (take m a.result) last
              ∙ ap₂ (λ f s. prefixed (settled + 1) f s) front_is last_is;
        }
