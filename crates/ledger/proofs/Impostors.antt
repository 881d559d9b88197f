-- Wrong programs that could pass for opening, and for each a call on which it and the definition differ,
-- by computing both.
use Prim.Native.Nat.{ℕ}
use mathlib.Core.Path.{◌≡◌, ap}
use mathlib.Core.List.{List, [], ◌∷◌}
use mathlib.Core.Bool.{Bool, cond}
use native.Mathlib.Omega.{arith}
use lib.ListN.{get_or}
use lib.Dec.{eqb}
use Rattle.words.specs.Words.{written}
use Rattle.words.specs.Grounds.{answered}
use Rattle.reading.specs.Block.{block_words, block_of, not_a_block, terms_outside, year_unknown, ids_misplaced, ids_out_of_order}
use Rattle.ledger.specs.Ledger.{ledger_words}
use Rattle.ledger.specs.Opening.{OpeningAnswer, ledger_too_short, opening_grounds, opened_ledger, opening}
use Rattle.ledger.specs.Figures.{buffer, block_with, listing_block}
use Rattle.ledger.proofs.Computing.{computing}

-- a program differs from opening on a call if what it gives there is not what the definition gives
abbrev pub Differs : (List ℕ → List ℕ → OpeningAnswer) → List ℕ → List ℕ → Type 0
Differs program block ledger = program block ledger ≡ opening block ledger → ⊥

-- always refuses
pub always_refuses : List ℕ → List ℕ → OpeningAnswer
always_refuses block ledger = record { refusal = 1; ledger = ledger }

-- the listing's block and a buffer of just its bytes, which opening accepts
pub always_refuses_differs : Differs always_refuses listing_block (buffer 192)
unfolding always_refuses listing_block block_with computing
always_refuses_differs same = omega (arith, ap (λ a. a.refusal) same)

-- answers 0 to everything
pub fixed_answer : List ℕ → List ℕ → OpeningAnswer
fixed_answer block ledger = record { refusal = 0; ledger = written (ledger_words (opened_ledger block)) ledger }

-- a buffer one byte too short, which opening refuses
pub fixed_answer_differs : Differs fixed_answer listing_block (buffer 191)
unfolding fixed_answer listing_block block_with computing
fixed_answer_differs same = omega (arith, ap (λ a. a.refusal) same)

-- answers as it should, and does no work
pub does_no_work : List ℕ → List ℕ → OpeningAnswer
does_no_work block ledger = record { refusal = (opening block ledger).refusal; ledger = ledger }

-- the first byte of the ledger that opening writes
pub does_no_work_differs : Differs does_no_work listing_block (buffer 192)
unfolding does_no_work listing_block block_with computing
does_no_work_differs same = omega (arith, ap (λ a. get_or a.ledger 0 0) same)

-- writes before the last check
pub writes_first : List ℕ → List ℕ → OpeningAnswer
writes_first block ledger =
    let refusal = answered (opening_grounds block ledger) in
    let early = written (ledger_words (opened_ledger block)) ledger in
    record { refusal = refusal; ledger = cond (eqb refusal 5) early (opening block ledger).ledger }

-- a buffer one byte too short, which opening leaves as it was
pub writes_first_differs : Differs writes_first listing_block (buffer 191)
unfolding writes_first listing_block block_with computing
writes_first_differs same = omega (arith, ap (λ a. get_or a.ledger 0 0) same)

-- tests the ids' place before the terms
pub grounds_swapped : List ℕ → List ℕ → OpeningAnswer
grounds_swapped block ledger =
    let grounds : List (Bool × ℕ) =
    (not_a_block block, 1)
    ∷ (ids_misplaced block, 3)
    ∷ (terms_outside (block_of block).terms, 2)
    ∷ (year_unknown (block_words block), 23)
    ∷ (ids_out_of_order (block_of block).ids, 4)
    ∷ (ledger_too_short block ledger, 5)
    ∷ [] in
    record { refusal = answered grounds; ledger = (opening block ledger).ledger }

-- a block with Net CONE 0 and no ids, which opening answers with 2
pub grounds_swapped_differs : Differs grounds_swapped (block_with 0 365 []) (buffer 64)
unfolding grounds_swapped block_with computing
grounds_swapped_differs same = omega (arith, ap (λ a. a.refusal) same)
