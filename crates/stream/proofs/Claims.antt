-- The proofs of what specs/Claims.antt states.
use Prim.Native.Nat.{ℕ, zero, suc, ◌+◌, ◌-◌, ◌<◌}
use mathlib.Core.Path.{◌≡◌, refl, sym, ap, ◌∙◌}
use mathlib.Core.List.{List}
use mathlib.Core.Bool.{Bool, true, false, cond}
use native.Mathlib.Omega.{arith}
use lib.ListN.{length, drop}
use Rattle.stream.specs.Stream.{Next, next_block, after}
use Rattle.stream.specs.Steps.{Outcome, Steps, step, joined, steps_over}
use Rattle.stream.specs.Claims.{reading_steps, BudgetIsEnough, ReadingIsEnough}
use Rattle.stream.proofs.Laws.{read_bytes, enough, rest_left}

-- an outcome, and what comes of going on after it
unfoldable onward : {A S : Type 0} → Outcome A S → Outcome A S → Outcome A S
onward o later = cond o.on (joined o later) o

-- after an end nothing more is done, so that what comes later matters only where a block is next
onward_same : {A S : Type 0} (p : Steps A S) (number : ℕ) (state : S) (next : Next) (x y : Outcome A S)
    → ((bytes rest : List ℕ) → next ≡ Next.block bytes rest → x ≡ y)
    → onward (step p number state next) x ≡ onward (step p number state next) y
unfolding onward step
onward_same p number state (Next.stop e) x y same = refl
onward_same p number state (Next.block bytes rest) x y same =
    ap (onward (p.block number state bytes)) (same bytes rest refl)

-- what stops later has stopped
onward_stops : {A S : Type 0} (p : Steps A S) (number : ℕ) (state : S) (next : Next) (x : Outcome A S)
    → ((bytes rest : List ℕ) → next ≡ Next.block bytes rest → x.on ≡ false)
    → (onward (step p number state next) x).on ≡ false
unfolding onward step joined
onward_stops p number state (Next.stop e) x later = refl
onward_stops p number state (Next.block bytes rest) x later = by (p.block number state bytes).on refl
  where
    by : (t : Bool) → (p.block number state bytes).on ≡ t
        → (cond t (joined (p.block number state bytes) x) (p.block number state bytes)).on ≡ false
    by true e = later bytes rest refl
    by false e = e

module _ (A S : Type 0) (p : Steps A S) where
  -- the rest of a stream is shorter than the stream
  shorter : (number : ℕ) (s bytes rest : List ℕ) → next_block (p.most number) s ≡ Next.block bytes rest
      → length (after (next_block (p.most number) s)) < length s
  unfolding after
  shorter number s bytes rest is =
      omega (arith, ap (λ k. length (after k)) is, (rest_left (p.most number) s bytes rest is).1)

  -- a budget of more steps than bytes is never used up
  never_used_up : (budget number : ℕ) (state : S) (s : List ℕ) → length s < budget
      → (steps_over p budget number state s).on ≡ false
  unfolding steps_over onward
  never_used_up zero number state s h = absurd (omega arith)
  never_used_up (suc budget) number state s h =
      let next = next_block (p.most number) s in
      onward_stops p number state next _
      (λ bytes rest is. never_used_up budget (number + 1) (step p number state next).state (after next) (omega (arith, shorter number s bytes rest is)))

  -- one step more of it changes nothing
  one_more : (budget number : ℕ) (state : S) (s : List ℕ) → length s < budget
      → steps_over p (suc budget) number state s ≡ steps_over p budget number state s
  unfolding steps_over onward
  one_more zero number state s h = absurd (omega arith)
  one_more (suc budget) number state s h =
      let next = next_block (p.most number) s in
      onward_same p number state next _ _
      (λ bytes rest is. one_more budget (number + 1) (step p number state next).state (after next) (omega (arith, shorter number s bytes rest is)))

  -- however many more there are
  many_more : (more number : ℕ) (state : S) (s : List ℕ)
      → steps_over p (more + (length s + 1)) number state s ≡ steps_over p (length s + 1) number state s
  many_more zero number state s = ap (λ b. steps_over p b number state s) (omega arith)
  many_more (suc more) number state s =
      let next : suc more + (length s + 1) ≡ suc (more + (length s + 1)) = omega arith in
      ap (λ b. steps_over p b number state s) next ∙ one_more (more + (length s + 1)) number state s (omega arith)
      ∙ many_more more number state s

  -- steps that read do what steps on the whole stream do
  reading_same : (budget number : ℕ) (state : S) (s : List ℕ)
      → reading_steps p budget number state s ≡ steps_over p budget number state s
  unfolding steps_over reading_steps onward after
  reading_same zero number state s = refl
  reading_same (suc budget) number state s =
      let next = next_block (p.most number) s in
      let rest = drop (read_bytes (p.most number) s) s in
      ap (λ o. onward o (reading_steps p budget (number + 1) o.state rest)) (enough (p.most number) s p number state)
      ∙ onward_same p number state next _ _
      (λ bytes left is.
      reading_same budget (number + 1) (step p number state next).state rest
      ∙ ap (steps_over p budget (number + 1) (step p number state next).state)
      (sym (rest_left (p.most number) s bytes left is).0 ∙ sym (ap after is)))

-- a budget greater than the stream's length is enough
pub budget_is_enough : BudgetIsEnough
unfolding BudgetIsEnough
budget_is_enough = never_used_up

-- and with it reading a length and the bytes due after it is enough
pub reading_is_enough : ReadingIsEnough
unfolding ReadingIsEnough
reading_is_enough A S p budget number state s h =
    let all : budget ≡ budget - (length s + 1) + (length s + 1) = omega arith in
    reading_same A S p budget number state s ∙ ap (λ b. steps_over p b number state s) all
    ∙ many_more A S p (budget - (length s + 1)) number state s
