-- A call of opening is refused, and nothing changes, or accepted.
use Prim.Native.Nat.{ℕ}
use mathlib.Core.Path.{◌≡◌}
use mathlib.Core.List.{List}
use mathlib.Core.Bool.{false}
use lib.Dec.{eqb}
use borrow.Author.Tests.{eq-eqb}
use Rattle.words.specs.Words.{written}
use Rattle.words.specs.Grounds.{answered}
use Rattle.ledger.specs.Ledger.{ledger_words}
use Rattle.ledger.specs.Opening.{opening_grounds, OpeningAnswer, opening, opened_ledger}

-- the answer of an accepted call
abbrev pub opened_answer : List ℕ → List ℕ → OpeningAnswer
opened_answer block ledger = record { refusal = 0; ledger = written (ledger_words (opened_ledger block)) ledger }

-- where no ground of opening applies, the call answers 0 and writes the block's ledger
pub opening_accepts : (block ledger : List ℕ) → answered (opening_grounds block ledger) ≡ 0
    → opening block ledger ≡ opened_answer block ledger
unfolding opening
opening_accepts block ledger e = rw (eq-eqb (answered (opening_grounds block ledger)) 0 e)

-- where a ground of opening applies, the call answers it and leaves the buffer as it was
pub opening_refuses : (block ledger : List ℕ) → eqb (answered (opening_grounds block ledger)) 0 ≡ false
    → opening block ledger ≡ record { refusal = answered (opening_grounds block ledger); ledger = ledger }
unfolding opening
opening_refuses block ledger e = rw e
