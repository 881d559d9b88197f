-- What a list of grounds says of its answer.
use Prim.Native.Nat.{ℕ, ◌<◌}
use mathlib.Core.Path.{◌≡◌, refl}
use mathlib.Core.Logic.{◌⊎◌, inl, inr}
use mathlib.Core.List.{List, [], ◌∷◌}
use mathlib.Core.Bool.{Bool, true, false, cond, ◌||◌}
use lib.Dec.{eqb}
use borrow.Author.Tests.{eqb-false}
use native.Mathlib.Omega.{arith}
use Rattle.words.specs.Lists.{any}
use Rattle.words.specs.Grounds.{answered}
use Rattle.words.proofs.Tests.{not_first, not_second}

-- where 0 is answered, no ground applies (no ground has the number 0)
pub none_applies : (gs : List (Bool × ℕ)) → any (λ g. eqb g.1 0) gs ≡ false → answered gs ≡ 0
    → any (λ g. g.0) gs ≡ false
unfolding any answered
none_applies [] n e = refl
none_applies (g ∷ gs) n e = by g.0 e (none_applies gs (not_second (eqb g.1 0) (any (λ g. eqb g.1 0) gs) n))
  where
    -- the first ground's number is above 0
    numbered : 0 < g.1
    numbered = omega (arith, eqb-false g.1 0 (not_first (eqb g.1 0) (any (λ g. eqb g.1 0) gs) n))

    by : (t : Bool) → cond t g.1 (answered gs) ≡ 0 → (answered gs ≡ 0 → any (λ g. g.0) gs ≡ false)
        → (t || any (λ g. g.0) gs) ≡ false
    by true q later = absurd (omega (arith, numbered))
    by false q later = later q

-- what is answered is 0, or a number that a test passes over, where it does so for the number of each ground
pub answered_passed : (test : ℕ → Bool) (gs : List (Bool × ℕ)) → any (λ g. test g.1) gs ≡ false
    → (answered gs ≡ 0) ⊎ (test (answered gs) ≡ false)
unfolding any answered
answered_passed test [] n = inl refl
answered_passed test (g ∷ gs) n =
    by g.0 (answered_passed test gs (not_second (test g.1) (any (λ g. test g.1) gs) n))
  where
    by : (t : Bool) → (answered gs ≡ 0) ⊎ (test (answered gs) ≡ false)
        → (cond t g.1 (answered gs) ≡ 0) ⊎ (test (cond t g.1 (answered gs)) ≡ false)
    by true later = inr (not_first (test g.1) (any (λ g. test g.1) gs) n)
    by false later = later
