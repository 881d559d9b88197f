-- Laws of alternatives.
use mathlib.Core.Path.{◌≡◌, refl, sym, ap}
use mathlib.Core.Bool.{Bool, true, false, ◌||◌, or-false}

-- what the first of some members tells and what the others tell, taken apart
pub or_apart : (x xs y ys : Bool) → ((x || xs) || (y || ys)) ≡ ((x || y) || (xs || ys))
or_apart true xs y ys = refl
or_apart false true true ys = refl
or_apart false true false ys = refl
or_apart false false y ys = refl

-- one alternative, with one that fails behind it
pub or_then : (s t : Bool) → (s || t) ≡ ((s || false) || t)
or_then s t = ap (λ s. s || t) (sym (or-false s))
