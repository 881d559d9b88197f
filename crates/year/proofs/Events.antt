-- An event is the calls of settling that it makes.
use Prim.Native.Nat.{ℕ, zero, suc, ◌+◌}
use mathlib.Core.Path.{◌≡◌, refl, sym, ap, ap₂, ◌∙◌}
use mathlib.Core.List.{List, [], ◌∷◌, ◌++◌}
use mathlib.Core.Bool.{Bool, true, false, cond}
use native.Mathlib.Numerals.{add-one}
use native.Mathlib.Omega.{arith}
use lib.ListN.{length, take, drop}
use lib.Seq.{length-take-le, take_at, drop_at}
use lib.Dec.{ltb, eqb}
use borrow.Author.Tests.{eqb-true, ltb-true}
use Rattle.words.specs.Words.{written}
use Rattle.stream.specs.Stream.{End, Next, next_block}
use Rattle.reading.specs.Interval.{header_of}
use Rattle.settling.specs.Settling.{result_bytes, SettlingAnswer, settling}
use Rattle.settling.proofs.Accepted.{accepted}
use Rattle.event.specs.Event.{
  most_length,
  length_runs_past,
  count_bytes,
  count_too_short,
  Settled,
  no_file,
  one_file,
  turn,
  settled_files,
  EventAnswer,
  event,
}
use Rattle.year.specs.Year.{
  Call,
  Year,
  new_year,
  after_call,
  after_calls,
  calls_next,
  calls_over,
  EventCall,
  event_calls,
  results_left,
  results_next,
  results_placed,
}
use Rattle.year.specs.Claims.{SettlingRefusals, IsCalls, EventIsCalls}
use Rattle.year.proofs.Calls.{answer_leaves}
use Rattle.year.proofs.Claims.{settling_refusals}

-- what files leave is what calls leave, one after the other, on a year with the ledger
record FilesAre (y : Year) (ledger files : List ℕ) (s : Settled) (calls : List Call) : Type 0 where
  leaves : s.ledger ≡ (after_calls y calls).ledger
  counts : s.files ≡ length (results_left ledger calls)
  results : results_placed s.files files s.result ≡ results_left ledger calls

-- where no file is settled, no call is made
none_are : (y : Year) (ledger files result : List ℕ) (refusal : ℕ) → y.ledger ≡ ledger
    → FilesAre y ledger files (no_file refusal ledger result) []
unfolding no_file after_calls results_left results_placed
none_are y ledger files result refusal is = record { leaves = sym is; counts = refl; results = refl }

-- a file whose turn comes, and the call that it makes
module _ (y : Year) (ledger file rest result : List ℕ) (is : y.ledger ≡ ledger) where
  -- the call
  abbrev call : Call
  call = record { file = file; result = result }

  -- its answer
  abbrev a : SettlingAnswer
  a = settling ledger file result

  -- as many bytes as its rows take
  abbrev n : ℕ
  n = result_bytes (header_of file).row_count

  -- the ledger that it leaves
  call_leaves : (after_call y call).ledger ≡ a.ledger
  unfolding after_call
  call_leaves = answer_leaves y call (settling y.ledger file result) ∙ ap (λ l. (settling l file result).ledger) is

  -- where it is refused, nothing more is done
  refused_is : (files : List ℕ) → eqb a.refusal 0 ≡ false
      → FilesAre y ledger files (no_file a.refusal a.ledger a.result) (call ∷ [])
  unfolding no_file after_calls results_left results_placed
  refused_is files off = record {
    leaves = sym call_leaves;
    counts = rw off;
    results = rw off;
  }

  -- where it is accepted, its result has as many bytes
  has_bytes : a.refusal ≡ 0 → length (take n a.result) ≡ n
  unfolding SettlingRefusals
  has_bytes none =
      length-take-le n a.result (omega (arith, (accepted ledger file result none).room, (settling_refusals ledger file result).lengths_kept.1))

  -- and stands before what the later files leave
  settled_is : (files : List ℕ) (later : Settled) (calls : List Call)
      → next_block most_length files ≡ Next.block file rest → eqb a.refusal 0 ≡ true
      → FilesAre (after_call y call) a.ledger rest later calls
      → FilesAre y ledger files (one_file (take n a.result) later) (call ∷ calls)
  unfolding one_file after_calls results_left results_placed results_next
  settled_is files later calls next on below =
      let bytes = has_bytes (eqb-true a.refusal 0 on) in
      let front = take_at (take n a.result) later.result n bytes in
      let back = drop_at (take n a.result) later.result n bytes in
      record {
        leaves = below.leaves;
        counts = rw on (add-one later.files ∙ ap suc below.counts);
        results = rw on (
            ap (λ k. results_placed k files (take n a.result ++ later.result)) (add-one later.files)
            ∙ ap (results_next (results_placed later.files) (take n a.result ++ later.result)) next
            ∙ ap₂ (λ f b. f ∷ results_placed later.files rest b) front back
            ∙ ap (λ rs. take n a.result ∷ rs) below.results
            );
      }

-- what is known of files with a budget of turns
abbrev Are : ℕ → Type 0
Are budget = (y : Year) (ledger files result : List ℕ) → y.ledger ≡ ledger
    → FilesAre y ledger files (settled_files budget ledger files result) (calls_over budget ledger files result)

-- from what comes next on
next_are : (budget : ℕ) → Are budget → (y : Year) (ledger files result : List ℕ) → y.ledger ≡ ledger → (n : Next)
    → next_block most_length files ≡ n
    → FilesAre y ledger files (turn (settled_files budget) ledger result n)
    (calls_next (calls_over budget) ledger result n)
unfolding turn calls_next
next_are budget below y ledger files result is (Next.stop End.ended) next = none_are y ledger files result 0 is
next_are budget below y ledger files result is (Next.stop End.cut) next =
    none_are y ledger files result length_runs_past is
next_are budget below y ledger files result is (Next.stop End.over_long) next =
    none_are y ledger files result length_runs_past is
next_are budget below y ledger files result is (Next.block file rest) next =
    by (eqb (settling ledger file result).refusal 0) refl
  where
    later : Settled
    later =
        settled_files budget (settling ledger file result).ledger rest
        (drop (result_bytes (header_of file).row_count) (settling ledger file result).result)

    calls : List Call
    calls = calls_over budget (settling ledger file result).ledger rest
        (drop (result_bytes (header_of file).row_count) (settling ledger file result).result)

    by : (t : Bool) → eqb (settling ledger file result).refusal 0 ≡ t
        → FilesAre y ledger files
        (cond t (one_file (take (result_bytes (header_of file).row_count) (settling ledger file result).result) later)
        (no_file (settling ledger file result).refusal (settling ledger file result).ledger (settling ledger file result).result))
        (record { file = file; result = result } ∷ cond t calls [])
    by true on =
        settled_is y ledger file rest result is files later calls next on
        (below (after_call y (record { file = file; result = result })) (settling ledger file result).ledger rest
        (drop (result_bytes (header_of file).row_count) (settling ledger file result).result)
        (call_leaves y ledger file rest result is))
    by false off = refused_is y ledger file rest result is files off

-- with a budget of any turns
files_are : (budget : ℕ) → Are budget
unfolding settled_files calls_over
files_are zero y ledger files result is = none_are y ledger files result 0 is
files_are (suc budget) y ledger files result is =
    next_are budget (files_are budget) y ledger files result is (next_block most_length files) refl

-- an event without room for the number of files makes no call
short_is : (ledger : List ℕ) (e : EventCall) → ltb (length e.count) count_bytes ≡ true
    → IsCalls ledger e (record { refusal = count_too_short; ledger = ledger; result = e.result; count = e.count }) []
unfolding after_calls results_left results_placed
short_is ledger e short = record {
  leaves = λ y is. sym is;
  counts = λ room. absurd (omega (arith, ltb-true (length e.count) count_bytes short));
  results = refl;
}

-- one with room makes those of its files
long_is : (ledger : List ℕ) (e : EventCall) (s : Settled) (calls : List Call)
    → ((y : Year) → y.ledger ≡ ledger → FilesAre y ledger e.files s calls)
    → IsCalls ledger e (record { refusal = s.refusal; ledger = s.ledger; result = s.result; count = written (s.files ∷ []) e.count }) calls
unfolding new_year
long_is ledger e s calls are =
    let own = are (new_year ledger) refl in
    record {
      leaves = λ y is. (are y is).leaves;
      counts = λ room. ap (λ k. written (k ∷ []) e.count) own.counts;
      results = ap (λ k. results_placed k e.files s.result) (sym own.counts) ∙ own.results;
    }

-- an event is its calls
pub event_is_calls : EventIsCalls
unfolding EventIsCalls event event_calls
event_is_calls ledger e = by (ltb (length e.count) count_bytes) refl
  where
    s : Settled
    s = settled_files (length e.files + 1) ledger e.files e.result

    calls : List Call
    calls = calls_over (length e.files + 1) ledger e.files e.result

    answer : Bool → EventAnswer
    answer t = cond t (record { refusal = count_too_short; ledger = ledger; result = e.result; count = e.count })
        (record { refusal = s.refusal; ledger = s.ledger; result = s.result; count = written (s.files ∷ []) e.count })

    by : (t : Bool) → ltb (length e.count) count_bytes ≡ t → IsCalls ledger e (answer t) (cond t [] calls)
    by true short = short_is ledger e short
    by false long =
        long_is ledger e s calls (λ y is. files_are (length e.files + 1) y ledger e.files e.result is)
