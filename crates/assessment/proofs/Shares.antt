-- The shares of a pool, each rounded down: together at most the pool,
-- and the rest is less than the number of shares above 0.
use Prim.Native.Nat.{ℕ, ◌+◌, ◌*◌, ◌/◌, ◌<◌, ◌≤◌}
use mathlib.Core.Path.{◌≡◌, refl, ap, ◌∙◌}
use mathlib.Core.List.{List, [], ◌∷◌}
use mathlib.Core.Bool.{Bool, true, false, cond}
use native.Mathlib.Nat.{
  div-mul-le_self,
  lt-div-mul-add,
  mul-le-mul_right,
  le_of_mul-le-mul_right,
  lt_of_mul-lt-mul_right,
  zero-mul,
  zero-div,
}
use native.Mathlib.Omega.{arith}
use lib.Dec.{ltb, eqb}
use borrow.Author.Tests.{ltb-false, eqb-false, ne_eqb}
use Rattle.words.specs.Lists.{sum}
use Rattle.words.proofs.Lists.{sum_zero}
use Rattle.assessment.specs.Assessment.{Assessed, total_bonus, pool, share, credit, credits, carried_on}

-- where some weight is above 0, one is counted
counted : {A : Type 0} (w : A → ℕ) (xs : List A) → 0 < sum w xs → 0 < sum (λ x. cond (ltb 0 (w x)) 1 0) xs
unfolding sum
counted w [] h = h
counted w (x ∷ xs) h = by (ltb 0 (w x)) refl (counted w xs)
  where
    by : (t : Bool) → ltb 0 (w x) ≡ t → (0 < sum w xs → 0 < sum (λ y. cond (ltb 0 (w y)) 1 0) xs)
        → 0 < cond t 1 0 + sum (λ y. cond (ltb 0 (w y)) 1 0) xs
    by true e below = omega arith
    by false e below = omega (arith, below (omega (arith, ltb-false 0 (w x) e)))

-- shares of cents by weight, over any whole
module _ {A : Type 0} (w : A → ℕ) (cents whole : ℕ) where
  -- the shares, each rounded down, times the whole are at most the weights times the cents
  shares_le : (xs : List A) → sum (λ x. w x * cents / whole) xs * whole ≤ sum w xs * cents
  unfolding sum
  shares_le [] = omega arith
  shares_le (x ∷ xs) = omega (arith, div-mul-le_self (w x * cents) whole, shares_le xs)

  -- a share above 0 falls short of its part by less than one whole
  share_rest : (x : A) → 0 < whole
      → w x * cents + cond (ltb 0 (w x)) 1 0 ≤ w x * cents / whole * whole + cond (ltb 0 (w x)) 1 0 * whole
  share_rest x p = by (ltb 0 (w x)) refl
    where
      by : (t : Bool) → ltb 0 (w x) ≡ t → w x * cents + cond t 1 0 ≤ w x * cents / whole * whole + cond t 1 0 * whole
      by true e = omega (arith, lt-div-mul-add {a = w x * cents} p)
      by false e = omega (arith, mul-le-mul_right cents (ltb-false 0 (w x) e))

  -- together they fall short of their parts by at most one less than a whole for each weight above 0
  shares_rest : 0 < whole → (xs : List A)
      → sum w xs * cents + sum (λ x. cond (ltb 0 (w x)) 1 0) xs
      ≤ (sum (λ x. w x * cents / whole) xs + sum (λ x. cond (ltb 0 (w x)) 1 0) xs) * whole
  unfolding sum
  shares_rest p [] = omega arith
  shares_rest p (x ∷ xs) = omega (arith, share_rest x p, shares_rest p xs)

-- shares of cents by weight, over the sum of the weights
module _ {A : Type 0} (w : A → ℕ) (cents : ℕ) (xs : List A) where
  -- the sum of the weights
  abbrev whole : ℕ
  whole = sum w xs

  -- where the weights add up to 0, nothing is shared
  none_shared : eqb whole 0 ≡ true → sum (λ x. share cents whole (w x)) xs ≡ 0
  unfolding share
  none_shared e = ap (λ (t : Bool). sum (λ x. cond t 0 (w x * cents / whole)) xs) e ∙ sum_zero xs

  -- where they do not, the shares add up as weight times cents over that sum, each rounded down
  all_shared : eqb whole 0 ≡ false → sum (λ x. share cents whole (w x)) xs ≡ sum (λ x. w x * cents / whole) xs
  unfolding share
  all_shared e = ap (λ (t : Bool). sum (λ x. cond t 0 (w x * cents / whole)) xs) e

  -- the shares add up to at most the cents
  pub shared_le : sum (λ x. share cents whole (w x)) xs ≤ cents
  shared_le = by (eqb whole 0) refl
    where
      by : (t : Bool) → eqb whole 0 ≡ t → sum (λ x. share cents whole (w x)) xs ≤ cents
      by true e = omega (arith, none_shared e)
      by false e =
          let some : 0 < whole = omega (arith, eqb-false whole 0 e) in
          let k : sum (λ x. share cents whole (w x)) xs * whole ≤ cents * whole = rw (all_shared e)
          (omega (arith, shares_le w cents whole xs)) in
          le_of_mul-le-mul_right k some

  -- what is not shared is less than the weights above 0
  pub rest_lt : 0 < whole → cents < sum (λ x. share cents whole (w x)) xs + sum (λ x. cond (ltb 0 (w x)) 1 0) xs
  rest_lt some =
      let n = sum (λ x. cond (ltb 0 (w x)) 1 0) xs in
      let above : 0 < n = counted w xs some in
      let shared = all_shared (ne_eqb whole 0 (λ e. omega arith)) in
      let h = rw (← shared) at (shares_rest w cents whole some xs) in
      let k : cents * whole < (sum (λ x. share cents whole (w x)) xs + n) * whole = omega (arith, h) in
      lt_of_mul-lt-mul_right whole k

-- a share of no bonus is none
pub share_zero : (cents total : ℕ) → share cents total 0 ≡ 0
unfolding share
share_zero cents total = by (eqb total 0)
  where
    by : (t : Bool) → cond t 0 (0 * cents / total) ≡ 0
    by true = refl
    by false = rw (zero-mul cents) (zero-div total)

-- an interval
module _ (v : Assessed) where
  -- its credits are at most its pool
  pub credits_le : credits v ≤ pool v
  unfolding credits credit total_bonus
  credits_le = shared_le (λ c. c.figures.bonus) (pool v) v.rows

  -- with bonus, fewer cents are carried on than there are rows with bonus
  pub carried_lt : 0 < total_bonus v → carried_on v < sum (λ c. cond (ltb 0 c.figures.bonus) 1 0) v.rows
  unfolding carried_on credits credit total_bonus
  carried_lt some = omega (arith, credits_le, rest_lt (λ c. c.figures.bonus) (pool v) v.rows some)
