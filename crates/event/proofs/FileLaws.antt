-- The laws of one file: how it is found at the front of what is left of an event, and what its turn leaves.
use Prim.Native.Nat.{ℕ, ◌-◌, ◌≤◌, ◌<◌, ◌^◌}
use mathlib.Core.Path.{◌≡◌, refl, sym, ap, ap₂, ◌∙◌}
use mathlib.Core.List.{List, [], ◌++◌, append-nil}
use mathlib.Core.Bool.{cond}
use native.Mathlib.Omega.{arith}
use lib.ListN.{length, take, drop, length-drop, drop_of_length-le, take-append-drop}
use lib.Dec.{ltb}
use borrow.Author.Tests.{lt-ltb, le-ltb}
use borrow.Rule.Slice.PartMut.{put_mid}
use denote.Ref.{Bor}
use Rattle.std.specs.Prelude.{Option, None, Some, Err, MatchOption}
use Rattle.std.specs.Option.{ok_or}
use Rattle.std.specs.List.{IsSplitAt}
use Rattle.words.specs.Words.{number_at}
use Rattle.words.specs.declared.refusal.Refusal.TheVariants.{FileCut}
use Rattle.stream.specs.Stream.{length_bytes, End, Next, next_block}
use Rattle.stream.proofs.Laws.{next_cut, following, next_following}
use Rattle.reading.specs.Interval.{most_rows, file_layout, header_of}
use Rattle.reading.specs.Values.{header_in}
use Rattle.reading.specs.declared.header.Header.{Header as HeaderValue}
use Rattle.settling.specs.Settling.{result_bytes, settling}
use Rattle.settling.proofs.Accepted.{accepted}
use Rattle.event.specs.Event.{most_length}
use Rattle.event.specs.Code.{FileDue}

-- fewer bytes than a length has are a cut
pub cut_length : (files : List ℕ) → 0 < length files → length files < length_bytes → FileDue files (Err FileCut)
cut_length files some short = (next_cut most_length files (λ z. omega arith) short, refl)

-- bytes that begin with a length n
module _ (files head rest : List ℕ) (cut : IsSplitAt files length_bytes head rest) (n : ℕ)
    (is : n ≡ number_at length_bytes head 0) (word : n < 2 ^ 32) where
  -- what comes next goes by whether as many follow
  by_length : next_block most_length files
      ≡ cond (ltb (length rest) n) (Next.stop End.cut) (Next.block (take n rest) (drop n rest))
  unfolding following
  by_length =
      ap (next_block most_length) (sym (take-append-drop length_bytes files) ∙ sym (ap₂ ◌++◌ cut.1 cut.2))
      ∙ next_following most_length head rest cut.3 n is ∙ rw (le-ltb most_length n (omega arith))

  -- they are the next file, or a cut
  pub file_due : (found : Option (Bor (List ℕ) × Bor (List ℕ)))
      → MatchOption found (length rest < n) (λ p. IsSplitAt rest n p.0.now p.1.now)
      → FileDue files (ok_or found FileCut)
  file_due None short = (by_length ∙ rw (lt-ltb (length rest) n short), refl)
  file_due (Some (file, later)) split =
      by_length ∙ rw (le-ltb (length rest) n split.0) (ap₂ Next.block (sym split.1) (sym split.2))

-- a part lent to the end of a buffer, put back as it was left
pub put_back : (at : ℕ) (b part : List ℕ) → put_mid at (length b - at) b part ≡ take at b ++ part
put_back at b part =
    let none : drop (length b - at) (drop at b) ≡ [] = drop_of_length-le (drop at b) {i = length b - at}
    (omega (arith, length-drop at b)) in
    ap (λ l. take at b ++ l) (ap (λ l. part ++ l) none ∙ append-nil part)

-- a file that settling accepts has a header
pub header_long : (ledger file result : List ℕ) → 0 ≡ (settling ledger file result).refusal
    → (file_layout file).header_bytes ≤ length file
header_long ledger file result answer = (accepted ledger file result (sym answer)).passed.tabled.read.long

-- what is known of a file and its header where settling accepts the file
pub record HeaderKnown (file result : List ℕ) (h : HeaderValue) : Type 0 where
  pub rows : h.rows ≡ (header_of file).row_count
  pub few : h.rows ≤ most_rows
  pub room : result_bytes h.rows ≤ length result

-- is known of any that it accepts
pub header_known : (ledger file result : List ℕ) (h : HeaderValue)
    → 0 ≡ (settling ledger file result).refusal → header_in h ≡ header_of file → HeaderKnown file result h
unfolding header_in
header_known ledger file result h answer is =
    let a = accepted ledger file result (sym answer) in
    let rows_are = ap (λ h. h.row_count) is in
    record {
      rows = rows_are;
      few = omega (arith, rows_are, a.passed.tabled.rows_few);
      room = omega (arith, ap result_bytes rows_are, a.room);
    }
