-- The proofs of what specs/Claims.antt states.
use Prim.Native.Nat.{ℕ, zero, suc, ◌+◌, ◌-◌, ◌<◌}
use mathlib.Core.Path.{◌≡◌, refl, sym, ap, ◌∙◌}
use mathlib.Core.List.{List}
use mathlib.Core.Bool.{Bool, true, false, cond}
use native.Mathlib.Omega.{arith}
use lib.ListN.{length, take, drop}
use lib.Dec.{eqb}
use borrow.Author.Tests.{eqb-true}
use Rattle.words.specs.Grounds.{answered}
use Rattle.words.proofs.Ints.{never}
use Rattle.stream.specs.Stream.{End, Next, next_block}
use Rattle.stream.proofs.Laws.{rest_left}
use Rattle.reading.specs.Interval.{header_of}
use Rattle.settling.specs.Settling.{result_bytes, settling_grounds, SettlingAnswer, settling}
use Rattle.settling.proofs.SettlingAnswers.{settling_accepts, settling_refuses}
use Rattle.event.specs.Event.{most_length, Settled, no_file, one_file, turn, settled_files}
use Rattle.event.specs.Claims.{TurnsAreEnough, RefusedTurn}

-- a turn whose later files are settled alike leaves the same
turn_same : (x y : List ℕ → List ℕ → List ℕ → Settled) (ledger result : List ℕ) (n : Next)
    → ((file rest : List ℕ) → n ≡ Next.block file rest → (l r : List ℕ) → x l rest r ≡ y l rest r)
    → turn x ledger result n ≡ turn y ledger result n
unfolding turn
turn_same x y ledger result (Next.stop End.ended) same = refl
turn_same x y ledger result (Next.stop End.cut) same = refl
turn_same x y ledger result (Next.stop End.over_long) same = refl
turn_same x y ledger result (Next.block file rest) same =
    let a = settling ledger file result in
    let n = result_bytes (header_of file).row_count in
    ap (λ s. cond (eqb a.refusal 0) (one_file (take n a.result) s) (no_file a.refusal a.ledger a.result))
    (same file rest refl a.ledger (drop n a.result))

-- one turn more than the buffer has bytes changes nothing
one_more : (budget : ℕ) (ledger files result : List ℕ) → length files < budget
    → settled_files (suc budget) ledger files result ≡ settled_files budget ledger files result
unfolding settled_files
one_more zero ledger files result h = absurd (omega arith)
one_more (suc budget) ledger files result h =
    turn_same (settled_files (suc budget)) (settled_files budget) ledger result (next_block most_length files)
    (λ file rest is l r. one_more budget l rest r (omega (arith, (rest_left most_length files file rest is).1)))

-- nor do any more
many_more : (more : ℕ) (ledger files result : List ℕ)
    → settled_files (more + (length files + 1)) ledger files result ≡ settled_files (length files + 1) ledger files result
many_more zero ledger files result = ap (λ b. settled_files b ledger files result) (omega arith)
many_more (suc more) ledger files result =
    let next : suc more + (length files + 1) ≡ suc (more + (length files + 1)) = omega arith in
    ap (λ b. settled_files b ledger files result) next
    ∙ one_more (more + (length files + 1)) ledger files result (omega arith) ∙ many_more more ledger files result

-- a budget greater than the number of bytes is enough
pub turns_are_enough : TurnsAreEnough
unfolding TurnsAreEnough
turns_are_enough budget ledger files result h =
    let all : budget ≡ budget - (length files + 1) + (length files + 1) = omega arith in
    ap (λ b. settled_files b ledger files result) all ∙ many_more (budget - (length files + 1)) ledger files result

-- a call of settling that is not accepted leaves ledger and result
refused_leaves : (ledger file result : List ℕ) → eqb (settling ledger file result).refusal 0 ≡ false
    → ((settling ledger file result).ledger ≡ ledger) × ((settling ledger file result).result ≡ result)
refused_leaves ledger file result e = by (eqb g 0) refl
  where
    g : ℕ
    g = answered (settling_grounds ledger file result)

    by : (t : Bool) → eqb g 0 ≡ t
        → ((settling ledger file result).ledger ≡ ledger) × ((settling ledger file result).result ≡ result)
    by true q = never (sym e ∙ ap (λ a. eqb a.refusal 0) (settling_accepts ledger file result (eqb-true g 0 q)))
    by false q = let a = settling_refuses ledger file result q in (ap (λ a. a.ledger) a, ap (λ a. a.result) a)

-- where a file is settled, some are
some_file : (later : Settled) (front : List ℕ) → (one_file front later).files ≡ 0 → ⊥
unfolding one_file
some_file later front none = omega arith

-- a turn in which no file is settled changes nothing
pub refused_turn : RefusedTurn
unfolding RefusedTurn turn no_file
refused_turn later ledger result (Next.stop End.ended) none = (refl, refl)
refused_turn later ledger result (Next.stop End.cut) none = (refl, refl)
refused_turn later ledger result (Next.stop End.over_long) none = (refl, refl)
refused_turn later ledger result (Next.block file rest) none =
    by (eqb (settling ledger file result).refusal 0) refl none
  where
    a : SettlingAnswer
    a = settling ledger file result

    n : ℕ
    n = result_bytes (header_of file).row_count

    s : Bool → Settled
    s t = cond t (one_file (take n a.result) (later a.ledger rest (drop n a.result)))
        (no_file a.refusal a.ledger a.result)

    by : (t : Bool) → eqb a.refusal 0 ≡ t → (s t).files ≡ 0 → ((s t).ledger ≡ ledger) × ((s t).result ≡ result)
    by true e settled = absurd (some_file (later a.ledger rest (drop n a.result)) (take n a.result) settled)
    by false e settled = refused_leaves ledger file result e
