-- Sums over the plants: each row is given to exactly one.
use Prim.Native.Nat.{ℕ, ◌+◌, ◌≤◌, max}
use mathlib.Core.Path.{◌≡◌, refl, ap₂, ◌∙◌}
use mathlib.Core.List.{List, [], ◌∷◌, ◌++◌, Memᴰ}
use mathlib.Core.Bool.{true, false, cond}
use native.Mathlib.Omega.{arith}
use lib.Dec.{eqb}
use borrow.Author.Tests.{eq-eqb, ne_eqb}
use Rattle.words.specs.Lists.{sum, rises_above}
use Rattle.words.proofs.Lists.{sum_append, sum_zero, sum_plus, sum_same, rises_next, member_above}
use Rattle.year.specs.Year.{GivenRow, sum_of_plant, largest_of_plant}

-- ids above a number do not hit it
none_hit : (i x last : ℕ) (is : List ℕ) → rises_above last is ≡ true → i ≤ last → sum (λ j. cond (eqb i j) x 0) is ≡ 0
none_hit i x last is e h =
    sum_same (λ j. cond (eqb i j) x 0) (λ j. 0) is (λ j m. rw (ne_eqb i j (λ q. omega (arith, member_above last m e))))
    ∙ sum_zero is

-- of ids that rise, one hits a member
one_hit : (x : ℕ) {i : ℕ} (last : ℕ) {is : List ℕ} → Memᴰ i is → rises_above last is ≡ true
    → sum (λ j. cond (eqb i j) x 0) is ≡ x
unfolding sum
one_hit x {i} last (Memᴰ.head {x = j} {xs = is} q) e =
    rw (eq-eqb i j q) (omega (arith, none_hit i x j is (rises_next last j is e).1 (omega (arith, q))))
one_hit x {i} last (Memᴰ.tail {x = j} {xs = is} m) e =
    let up = rises_next last j is e in
    let other : eqb i j ≡ false = ne_eqb i j (λ q. omega (arith, q, member_above j m up.1)) in
    rw other (omega (arith, one_hit x j m up.1))

-- the plants' parts make up the whole
pub parts_make_whole : (f : GivenRow → ℕ) (is : List ℕ) → rises_above 0 is ≡ true → (gs : List GivenRow)
    → ((g : GivenRow) → Memᴰ g gs → Memᴰ g.id is)
    → sum (λ i. sum_of_plant i f gs) is ≡ sum f gs
unfolding sum_of_plant sum
parts_make_whole f is rise [] known = sum_zero is
parts_make_whole f is rise (g ∷ gs) known =
    sum_plus (λ i. cond (eqb g.id i) (f g) 0) (λ i. sum_of_plant i f gs) is
    ∙ ap₂ ◌+◌ (one_hit (f g) 0 (known g (Memᴰ.head refl)) rise)
    (parts_make_whole f is rise gs (λ s m. known s (Memᴰ.tail m)))

-- a plant's largest commitment in two lists of rows is the larger of that in each
pub largest_append : (i : ℕ) (xs ys : List GivenRow)
    → largest_of_plant i (xs ++ ys) ≡ max (largest_of_plant i xs) (largest_of_plant i ys)
unfolding largest_of_plant
largest_append i [] ys = omega arith
largest_append i (g ∷ xs) ys = omega (arith, largest_append i xs ys)

-- a plant's sum over two lists of rows is the sum over the one plus the sum over the other
pub plant_append : (i : ℕ) (f : GivenRow → ℕ) (xs ys : List GivenRow)
    → sum_of_plant i f (xs ++ ys) ≡ sum_of_plant i f xs + sum_of_plant i f ys
unfolding sum_of_plant
plant_append i f xs ys = sum_append (λ g. cond (eqb g.id i) (f g) 0) xs ys
