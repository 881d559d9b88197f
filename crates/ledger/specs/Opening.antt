-- A call of opening: grounds 1 to 5 and 23, its answer, and the ledger that it leaves.
use Rattle.std.specs.Prelude.{ℕ, List, [], ◌∷◌, map, Bool, cond, length, ltb, eqb}
use Rattle.words.specs.Words.{written}
use Rattle.words.specs.Grounds.{answered}
use Rattle.reading.specs.Block.{block_words, block_of, not_a_block, terms_outside, year_unknown, ids_misplaced, ids_out_of_order}
use Rattle.assessment.specs.Assessment.{empty_account}
use Rattle.ledger.specs.Ledger.{Ledger, ledger_bytes, ledger_words}

-- ground 5: the ledger buffer is too short for the block's ids
unfoldable pub ledger_too_short : List ℕ → List ℕ → Bool
ledger_too_short block ledger = ltb (length ledger) (ledger_bytes (block_words block).id_count)

-- grounds 1, 2, 23, 3, 4 and 5, in checking order
unfoldable pub opening_grounds : List ℕ → List ℕ → List (Bool × ℕ)
opening_grounds block ledger =
    (not_a_block block, 1)
    ∷ (terms_outside (block_of block).terms, 2)
    ∷ (year_unknown (block_words block), 23)
    ∷ (ids_misplaced block, 3)
    ∷ (ids_out_of_order (block_of block).ids, 4)
    ∷ (ledger_too_short block ledger, 5)
    ∷ []

-- the ledger of a block: words 3 and 4 and all account words but the ids are 0
unfoldable pub opened_ledger : List ℕ → Ledger
opened_ledger block =
    record { terms = (block_of block).terms; earliest = 0; carried = 0; accounts = map empty_account (block_of block).ids }

-- what opening answers, and what it leaves in the ledger buffer
pub record OpeningAnswer : Type 0 where
  pub refusal : ℕ
  pub ledger : List ℕ

-- a call of opening
unfoldable pub opening : List ℕ → List ℕ → OpeningAnswer
opening block ledger =
    let refusal = answered (opening_grounds block ledger) in
    cond (eqb refusal 0)
    (record { refusal = 0; ledger = written (ledger_words (opened_ledger block)) ledger })
    (record { refusal = refusal; ledger = ledger })
