-- What is proved of every program's steps over a stream; proofs/Claims.antt has the proofs.
use Rattle.std.specs.Prelude.{ℕ, zero, suc, ◌+◌, ◌<◌, ◌≡◌, List, [], true, false, cond, length, take, drop}
use Rattle.stream.specs.Stream.{length_bytes, next_block, bytes_due}
use Rattle.stream.specs.Steps.{Outcome, Steps, step, joined, steps_over}

-- steps that each read a length and the bytes due after it, and leave the rest of the stream to the next
unfoldable pub reading_steps : {A S : Type 0} → Steps A S → ℕ → ℕ → S → List ℕ → Outcome A S
reading_steps p zero number state s = record { printed = []; state = state; on = true }
reading_steps p (suc budget) number state s =
    let read = length_bytes + bytes_due (p.most number) (take length_bytes s) in
    let o = step p number state (next_block (p.most number) (take read s)) in
    cond o.on (joined o (reading_steps p budget (number + 1) o.state (drop read s))) o

-- A budget of more steps than the stream has bytes is never used up
unfoldable pub BudgetIsEnough : Type 1
BudgetIsEnough = (A S : Type 0) (p : Steps A S) (budget number : ℕ) (state : S) (s : List ℕ) → length s < budget
    → (steps_over p budget number state s).on ≡ false

-- With such a budget, steps that read do what is defined of the whole stream
unfoldable pub ReadingIsEnough : Type 1
ReadingIsEnough = (A S : Type 0) (p : Steps A S) (budget number : ℕ) (state : S) (s : List ℕ) → length s < budget
    → reading_steps p budget number state s ≡ steps_over p (length s + 1) number state s
