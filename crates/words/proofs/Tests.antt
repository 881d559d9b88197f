-- What a test says where it is known. `facts` holds what `search` reads off a chain of tests.
use Prim.Native.Nat.{ℕ, ◌≤◌, ◌<◌}
use mathlib.Core.Path.{◌≡◌, refl, sym}
use mathlib.Core.Logic.{◌⊎◌, inl, inr}
use mathlib.Core.Bool.{Bool, true, false, not, ◌||◌, ◌&&◌, true≢false, false≢true, or-true}
use lib.Dec.{ltb, leb}
use borrow.Author.Tests.{ltb-false, leb-false, ltb-true, leb-true, eqb-true, not-false, not-true, lt-ltb, le-ltb}
use Rattle.words.specs.Grounds.{outside}

-- where neither of two tests holds, the first fails
pub not_first : (a b : Bool) → (a || b) ≡ false → a ≡ false
not_first true b e = absurd (true≢false e)
not_first false b e = refl

-- where neither of two tests holds, the second fails
pub not_second : (a b : Bool) → (a || b) ≡ false → b ≡ false
not_second true b e = absurd (true≢false e)
not_second false b e = e

-- where one of two tests holds, it is the first or the second
pub either : (a b : Bool) → (a || b) ≡ true → (a ≡ true) ⊎ (b ≡ true)
either true b e = inl refl
either false b e = inr e

-- where both of two tests hold, the first does
pub first_holds : (a b : Bool) → (a && b) ≡ true → a ≡ true
first_holds true b e = refl
first_holds false b e = absurd (false≢true e)

-- where both of two tests hold, the second does
pub second_holds : (a b : Bool) → (a && b) ≡ true → b ≡ true
second_holds true b e = e
second_holds false b e = absurd (false≢true e)

-- by these, search takes a chain of tests apart, down to what each says of its numbers
pub ruleset facts = (not_first, not_second, first_holds, second_holds, not-false, not-true, ltb-false, leb-false, ltb-true, leb-true, eqb-true)

-- a number that is not outside its range lies in it
pub not_outside : (low high x : ℕ) → outside low high x ≡ false → (low ≤ x) × (x ≤ high)
unfolding outside
not_outside low high x e = (search facts, search facts)

-- a number that lies in its range is not outside it
pub lies_inside : (low high x : ℕ) → low ≤ x → x ≤ high → outside low high x ≡ false
unfolding outside
lies_inside low high x l h = rw (le-ltb x low l, le-ltb high x h)

-- a number below its range is outside it
pub lies_below : (low high x : ℕ) → x < low → outside low high x ≡ true
unfolding outside
lies_below low high x h = rw (lt-ltb x low h)

-- a number above its range is outside it
pub lies_above : (low high x : ℕ) → high < x → outside low high x ≡ true
unfolding outside
lies_above low high x h = rw (lt-ltb high x h, or-true)

-- one number is not at or below another just where that one is below it
pub not_leb : (a b : ℕ) → not (leb a b) ≡ ltb b a
not_leb a b = by (leb a b) refl
  where
    by : (t : Bool) → leb a b ≡ t → not t ≡ ltb b a
    by true e = sym (le-ltb b a (leb-true a b e))
    by false e = sym (lt-ltb b a (leb-false a b e))
