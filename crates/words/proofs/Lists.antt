-- The laws of sums, tests and order over a list.
use Prim.Native.Nat.{ℕ, zero, suc, ◌+◌, ◌*◌, ◌≤◌, ◌<◌}
use mathlib.Core.Path.{◌≡◌, refl, sym, ap, ◌∙◌}
use mathlib.Core.Logic.{⊎_elim}
use mathlib.Core.List.Memᴰ
use mathlib.Core.List.{
  List,
  [],
  ◌∷◌,
  ◌++◌,
  map,
  Memᴰ,
}
use mathlib.Core.Bool.{Bool, true, false, ◌||◌, false≢true}
use native.Mathlib.Nat.{mul-le-mul_right}
use native.Mathlib.Omega.{arith}
use lib.ListN.{length, get_or}
use lib.Dec.{eqb}
use borrow.Author.Tests.{eqb-true, eqb-false, ne_eqb, lt-ltb}
use Rattle.words.specs.Lists.{sum, any, rises_above, rises}
use Rattle.words.proofs.Tests.{not_first, not_second, either, facts}

module _ {A : Type 0} where
  -- the sum over two lists, one behind the other, is the sum over the first plus that over the second
  pub sum_append : (f : A → ℕ) (xs ys : List A) → sum f (xs ++ ys) ≡ sum f xs + sum f ys
  unfolding sum
  sum_append f [] ys = omega arith
  sum_append f (x ∷ xs) ys = omega (arith, sum_append f xs ys)

  -- to sum a figure over a mapped list is to sum it of what each member is mapped to
  pub sum_map : {B : Type 0} (f : B → ℕ) (g : A → B) (xs : List A) → sum f (map g xs) ≡ sum (λ x. f (g x)) xs
  unfolding sum
  sum_map f g [] = refl
  sum_map f g (x ∷ xs) = ap (λ s. f (g x) + s) (sum_map f g xs)

  -- to test what members are mapped to is to test them by it
  pub any_map : {B : Type 0} (p : B → Bool) (g : A → B) (xs : List A) → any p (map g xs) ≡ any (λ x. p (g x)) xs
  unfolding any
  any_map p g [] = refl
  any_map p g (x ∷ xs) = ap (λ t. p (g x) || t) (any_map p g xs)

  -- a figure that is nowhere larger than another has no larger sum
  pub sum_le : (f g : A → ℕ) (xs : List A) → ((x : A) → f x ≤ g x) → sum f xs ≤ sum g xs
  unfolding sum
  sum_le f g [] h = omega arith
  sum_le f g (x ∷ xs) h = omega (arith, h x, sum_le f g xs h)

  -- a sum of zeros is 0
  pub sum_zero : (xs : List A) → sum (λ x. 0) xs ≡ 0
  unfolding sum
  sum_zero [] = refl
  sum_zero (x ∷ xs) = omega (arith, sum_zero xs)

  -- the sum of two figures added is their two sums added
  pub sum_plus : (f g : A → ℕ) (xs : List A) → sum (λ x. f x + g x) xs ≡ sum f xs + sum g xs
  unfolding sum
  sum_plus f g [] = omega arith
  sum_plus f g (x ∷ xs) = omega (arith, sum_plus f g xs)

  -- a sum of numbers of at most so much each
  sum_each : (f : A → ℕ) (most : ℕ) (xs : List A) → ((x : A) → Memᴰ x xs → f x ≤ most)
      → sum f xs ≤ length xs * most
  unfolding sum
  sum_each f most [] h = omega arith
  sum_each f most (x ∷ xs) h =
      omega (arith, h x (Memᴰ.head refl), sum_each f most xs (λ y m. h y (Memᴰ.tail m)))

  -- and of so many of them or fewer
  pub sum_most : (f : A → ℕ) (most many : ℕ) (xs : List A) → length xs ≤ many → ((x : A) → Memᴰ x xs → f x ≤ most)
      → sum f xs ≤ many * most
  sum_most f most many xs few each = omega (arith, sum_each f most xs each, mul-le-mul_right most few)

  -- sums of figures that agree on the members
  pub sum_same : (f g : A → ℕ) (xs : List A) → ((x : A) → Memᴰ x xs → f x ≡ g x) → sum f xs ≡ sum g xs
  unfolding sum
  sum_same f g [] h = refl
  sum_same f g (x ∷ xs) h = omega (arith, h x (Memᴰ.head refl), sum_same f g xs (λ y m. h y (Memᴰ.tail m)))

  -- the figure of one member is at most the sum
  pub member_le : (f : A → ℕ) {x : A} {xs : List A} → Memᴰ x xs → f x ≤ sum f xs
  unfolding sum
  member_le f (Memᴰ.head e) = omega (arith, ap f e)
  member_le f (Memᴰ.tail m) = omega (arith, member_le f m)

  -- where no member passes, a given one does not
  pub none_passes : (p : A → Bool) {x : A} {xs : List A} → Memᴰ x xs → any p xs ≡ false → p x ≡ false
  unfolding any
  none_passes p (Memᴰ.head {x = y} {xs = ys} e) h = ap p e ∙ not_first (p y) (any p ys) h
  none_passes p (Memᴰ.tail {x = y} {xs = ys} m) h = none_passes p m (not_second (p y) (any p ys) h)

  -- where each member fails, none passes
  pub none_pass : (p : A → Bool) (xs : List A) → ((x : A) → Memᴰ x xs → p x ≡ false) → any p xs ≡ false
  unfolding any
  none_pass p [] h = refl
  none_pass p (x ∷ xs) h = rw (h x (Memᴰ.head refl)) (none_pass p xs (λ y m. h y (Memᴰ.tail m)))

-- a walk over a list, by what is left of it: a next member and the rest, or nothing
module _ {A : Type 0} {left : List A} where
  -- at the start all is left to add
  pub sum_start : (f : A → ℕ) {all : List A} → all ≡ left → 0 + sum f left ≡ sum f all
  sum_start f start = let here = ap (sum f) start in omega (arith, here)

  -- what is added so far and what is left to add, when the next member's share is added
  pub sum_turn : (f : A → ℕ) (so all share : ℕ) {x : A} {rest : List A} → left ≡ x ∷ rest → so + sum f left ≡ all
      → share ≡ f x → so + share + sum f rest ≡ all
  unfolding sum
  sum_turn f so all share turn adds e = let here = ap (sum f) turn in omega (arith, here, adds, e)

  -- nothing is left to add
  pub sum_end : (f : A → ℕ) (so all : ℕ) → left ≡ [] → so + sum f left ≡ all → so ≡ all
  unfolding sum
  sum_end f so all none adds = let here = ap (sum f) none in omega (arith, here, adds)

  -- whether one of what is left passes is what the next member tells, or the rest
  pub any_turn : (p : A → Bool) (told : Bool) {whole : Bool} {x : A} {rest : List A} → whole ≡ any p left
      → left ≡ x ∷ rest → p x ≡ told → whole ≡ (told || any p rest)
  unfolding any
  any_turn p told {whole} {x} {rest} asks turn e = asks ∙ ap (any p) turn ∙ ap (λ t. t || any p rest) e

  -- nothing is left to pass
  pub any_end : (p : A → Bool) {whole : Bool} → whole ≡ any p left → left ≡ [] → whole ≡ false
  unfolding any
  any_end p asks none = asks ∙ ap (any p) none

-- a number that is found among others is one of them
pub found_member : (i : ℕ) (xs : List ℕ) → any (λ x. eqb x i) xs ≡ true → Memᴰ i xs
unfolding any
found_member i [] e = absurd (false≢true e)
found_member i (x ∷ xs) e =
    ⊎_elim (λ q. Memᴰ.head (sym (eqb-true x i q))) (λ q. Memᴰ.tail (found_member i xs q))
    (either (eqb x i) (any (λ x. eqb x i) xs) e)

-- where numbers rise, each is above the one before, and the later ones rise
pub rises_next : (last x : ℕ) (xs : List ℕ) → rises_above last (x ∷ xs) ≡ true → (last < x) × (rises_above x xs ≡ true)
unfolding rises_above
rises_next last x xs e = (search facts, search facts)

-- numbers that rise from above a number on rise
pub rises_rest : (last : ℕ) (xs : List ℕ) → rises_above last xs ≡ true → rises xs ≡ true
unfolding rises_above rises
rises_rest last [] e = refl
rises_rest last (x ∷ xs) e = search facts

-- numbers of which none is 0, and which rise, rise from above 0 on
pub rises_from_zero : (xs : List ℕ) → any (λ x. eqb x 0) xs ≡ false → rises xs ≡ true → rises_above 0 xs ≡ true
unfolding any rises rises_above
rises_from_zero [] z e = refl
rises_from_zero (x ∷ xs) z e =
    let some : eqb x 0 ≡ false = search facts in
    rw (lt-ltb 0 x (omega (arith, eqb-false x 0 some))) e

-- a member of numbers that rise is above what they rise from
pub member_above : {x : ℕ} (last : ℕ) {xs : List ℕ} → Memᴰ x xs → rises_above last xs ≡ true → last < x
member_above last (Memᴰ.head {x = y} {xs = xs} q) e = omega (arith, q, (rises_next last y xs e).0)
member_above last (Memᴰ.tail {x = y} {xs = xs} m) e =
    let up = rises_next last y xs e in omega (arith, up.0, member_above y m up.1)

-- so a number at or below that is not among them
pub not_among : (last r : ℕ) (xs : List ℕ) → rises_above last xs ≡ true → r ≤ last → any (λ x. eqb x r) xs ≡ false
not_among last r xs e h = none_pass (λ x. eqb x r) xs (λ x m. ne_eqb x r (λ q. omega (arith, member_above last m e)))

-- each of some words is below a bound
abbrev pub EachBelow : ℕ → List ℕ → Type 0
EachBelow n ws = (w : ℕ) → Memᴰ w ws → w < n

-- of no words each is
pub below_nil : {n : ℕ} → EachBelow n []
below_nil w m = absurd (Memᴰ.not-nil m)

-- so it is with one more such word in front
pub below_cons : {n : ℕ} (v : ℕ) (ws : List ℕ) → v < n → EachBelow n ws → EachBelow n (v ∷ ws)
below_cons v ws h each w m = ⊎_elim (λ e. omega (arith, e)) (each w) (Memᴰ.cases_cons m)

-- then the word at any place is below it, and so is the 0 that stands for one past the end
pub below_at : {n : ℕ} (ws : List ℕ) (k : ℕ) → 0 < n → EachBelow n ws → get_or ws k 0 < n
below_at [] k some each = omega arith
below_at (w ∷ ws) zero some each = each w (Memᴰ.head refl)
below_at (w ∷ ws) (suc k) some each = below_at ws k some (λ v m. each v (Memᴰ.tail m))
