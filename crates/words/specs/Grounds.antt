-- Grounds of refusal, and tests that several of them make.
use Rattle.std.specs.Prelude.{ℕ, ◌+◌, List, [], ◌∷◌, Bool, cond, ◌||◌, ◌&&◌, ℤ, nat_abs, ltb, leb}

-- grounds in checking order, each with whether it applies and its number:
-- the first that applies is answered, 0 if none does
unfoldable pub answered : List (Bool × ℕ) → ℕ
answered [] = 0
answered (g ∷ gs) = cond g.0 g.1 (answered gs)

-- a number outside low to high
unfoldable pub outside : ℕ → ℕ → ℕ → Bool
outside low high x = ltb x low || ltb high x

-- a signed number outside -most to most
unfoldable pub beyond : ℕ → ℤ → Bool
beyond most z = ltb most (nat_abs z)

-- whether so many bytes at an offset lie wholly from byte first to the end
unfoldable pub lies_from : ℕ → ℕ → ℕ → ℕ → Bool
lies_from first end at bytes = leb first at && leb (at + bytes) end

-- whether two stretches of m and n bytes, neither of them empty, share a byte
unfoldable pub overlap : ℕ → ℕ → ℕ → ℕ → Bool
overlap a m b n = ltb 0 m && ltb 0 n && ltb a (b + n) && ltb b (a + m)
