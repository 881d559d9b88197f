-- Steps over a stream, one block after the other, with any state and any sort of output.
use Rattle.std.specs.Prelude.{ℕ, zero, suc, ◌+◌, List, [], ◌++◌, Bool, true, false, cond}
use Rattle.stream.specs.Stream.{End, Next, next_block, after}

-- what is done with a part of a stream: what to print, the state after it, and whether to go on
pub record Outcome (A S : Type 0) : Type 0 where
  pub printed : List A
  pub state : S
  pub on : Bool

-- a program's steps: the most bytes of a block by its number, a block's outcome, and what is printed at an end
pub record Steps (A S : Type 0) : Type 0 where
  pub most : ℕ → ℕ
  pub block : ℕ → S → List ℕ → Outcome A S
  pub last : ℕ → S → End → List A

-- a step on what comes next: an end stops the program and leaves the state
unfoldable pub step : {A S : Type 0} → Steps A S → ℕ → S → Next → Outcome A S
step p number state (Next.stop e) = record { printed = p.last number state e; state = state; on = false }
step p number state (Next.block bytes rest) = p.block number state bytes

-- one outcome and then another
unfoldable pub joined : {A S : Type 0} → Outcome A S → Outcome A S → Outcome A S
joined first later = record { printed = first.printed ++ later.printed; state = later.state; on = later.on }

-- the steps of a stream from a block on, with a budget of them: to go on after the last is to have used it up
unfoldable pub steps_over : {A S : Type 0} → Steps A S → ℕ → ℕ → S → List ℕ → Outcome A S
steps_over p zero number state s = record { printed = []; state = state; on = true }
steps_over p (suc budget) number state s =
    let next = next_block (p.most number) s in
    let o = step p number state next in
    cond o.on (joined o (steps_over p budget (number + 1) o.state (after next))) o
