-- A call of settling is refused, and nothing changes, or accepted.
use Prim.Native.Nat.{ℕ}
use mathlib.Core.Path.{◌≡◌}
use mathlib.Core.List.{List}
use mathlib.Core.Bool.{false}
use lib.Dec.{eqb}
use borrow.Author.Tests.{eq-eqb}
use Rattle.words.specs.Words.{written}
use Rattle.words.specs.Grounds.{answered}
use Rattle.ledger.specs.Ledger.{ledger_words}
use Rattle.settling.specs.Settling.{
  assessed_file,
  result_words,
  settled_ledger,
  settling_grounds,
  SettlingAnswer,
  settling,
}

-- the answer of an accepted call
abbrev pub settled_answer : List ℕ → List ℕ → List ℕ → SettlingAnswer
settled_answer ledger file result = record {
  refusal = 0;
  ledger = written (ledger_words (settled_ledger ledger file)) ledger;
  result = written (result_words (assessed_file ledger file)) result;
}

-- where no ground of settling applies, the call answers 0 and writes the settled ledger and the result
pub settling_accepts : (ledger file result : List ℕ) → answered (settling_grounds ledger file result) ≡ 0
    → settling ledger file result ≡ settled_answer ledger file result
unfolding settling
settling_accepts ledger file result e = rw (eq-eqb (answered (settling_grounds ledger file result)) 0 e)

-- where a ground of settling applies, the call answers it and leaves both buffers as they were
pub settling_refuses : (ledger file result : List ℕ) → eqb (answered (settling_grounds ledger file result)) 0 ≡ false
    → settling ledger file result
    ≡ record { refusal = answered (settling_grounds ledger file result); ledger = ledger; result = result }
unfolding settling
settling_refuses ledger file result e = rw e
