-- The laws of decimal digits: the last of them and those before it, and that the library's text of a number is ours.
use Prim.Native.Nat.{ℕ, zero, suc, ◌+◌, ◌/◌, ◌%◌, ◌^◌, ◌≤◌, ◌<◌}
use mathlib.Core.Path.{◌≡◌, refl, sym, ap, ◌∙◌}
use mathlib.Core.List.{[], ◌∷◌, ◌++◌}
use mathlib.Core.Bool.{Bool, true, false}
use native.Mathlib.Nat.{mod-eq_of_lt}
use native.Mathlib.Omega.{arith}
use lib.Dec.{ltb}
use borrow.Author.Tests.{lt-ltb, le-ltb, ltb-true, ltb-false}
use Rattle.std.specs.Fmt.{decimal as text_of}
use Rattle.std.proofs.lemmas.Fmt.{decimal_by_steps}
use Rattle.listing.specs.Lines.{digits, decimal}

-- a number below ten is its own last digit
pub one_digit : (n v : ℕ) → v < 10 → digits (suc n) v ≡ (48 + v) ∷ []
unfolding digits
one_digit n v h = rw (lt-ltb v 10 h, mod-eq_of_lt h)

-- the last digit of a larger number stands after those of its tenth
pub more_digits : (n v : ℕ) → 10 ≤ v → digits (suc n) v ≡ digits n (v / 10) ++ (48 + v % 10) ∷ []
unfolding digits
more_digits n v h = rw (le-ltb v 10 h)

-- room for more digits than a number has changes none
pub same_digits : (m n v : ℕ) → v < 10 ^ suc m → v < 10 ^ suc n → digits (suc m) v ≡ digits (suc n) v
same_digits zero n v h k = one_digit zero v (omega arith) ∙ sym (one_digit n v (omega arith))
same_digits (suc m) zero v h k = one_digit (suc m) v (omega arith) ∙ sym (one_digit zero v (omega arith))
same_digits (suc m) (suc n) v h k = by (ltb v 10) refl (same_digits m n (v / 10) (omega arith) (omega arith))
  where
    by : (t : Bool) → ltb v 10 ≡ t → digits (suc m) (v / 10) ≡ digits (suc n) (v / 10)
        → digits (suc (suc m)) v ≡ digits (suc (suc n)) v
    by true e tenth = one_digit (suc m) v (ltb-true v 10 e) ∙ sym (one_digit (suc n) v (ltb-true v 10 e))
    by false e tenth =
        more_digits (suc m) v (ltb-false v 10 e)
        ∙ ap (λ ds. ds ++ (48 + v % 10) ∷ []) tenth
        ∙ sym (more_digits (suc n) v (ltb-false v 10 e))

-- a number below ten in decimal is one digit
pub decimal_one : (v : ℕ) → v < 10 → decimal v ≡ (48 + v) ∷ []
unfolding decimal
decimal_one v h = one_digit 19 v h

-- the digits of a 64-bit word from 10 on are those of its tenth and then its last digit
pub decimal_more : (v : ℕ) → v < 2 ^ 64 → 10 ≤ v → decimal v ≡ decimal (v / 10) ++ (48 + v % 10) ∷ []
unfolding decimal
decimal_more v fits h =
    more_digits 19 v h ∙ ap (λ ds. ds ++ (48 + v % 10) ∷ []) (same_digits 18 19 (v / 10) (omega arith) (omega arith))

-- the library's decimal text of a 64-bit word is ours
pub decimal_same : (v : ℕ) → v < 2 ^ 64 → text_of v ≡ decimal v
decimal_same v fits =
    decimal_by_steps (λ n ds. n < 2 ^ 64 → ds ≡ decimal n)
    (λ n h fits. sym (decimal_one n h))
    (λ n ds h tenth fits. ap (λ ds. ds ++ (48 + n % 10) ∷ []) (tenth (omega arith)) ∙ sym (decimal_more n fits h))
    v fits fits
