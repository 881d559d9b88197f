-- A sum, a test and an order over a list.
use Rattle.std.specs.Prelude.{ℕ, ◌+◌, List, [], ◌∷◌, Bool, true, false, ◌||◌, ◌&&◌, ltb}

-- the sum of a figure of each member
unfoldable pub sum : {A : Type 0} → (A → ℕ) → List A → ℕ
sum f [] = 0
sum f (x ∷ xs) = f x + sum f xs

-- whether a member passes a test
unfoldable pub any : {A : Type 0} → (A → Bool) → List A → Bool
any p [] = false
any p (x ∷ xs) = p x || any p xs

-- whether numbers rise strictly, from above a number on
unfoldable pub rises_above : ℕ → List ℕ → Bool
rises_above last [] = true
rises_above last (x ∷ xs) = ltb last x && rises_above x xs

-- whether numbers rise strictly
unfoldable pub rises : List ℕ → Bool
rises [] = true
rises (x ∷ xs) = rises_above x xs
