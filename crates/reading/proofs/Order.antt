-- What a walk over ids that stops at the first one out of order tells.
use Prim.Native.Nat.{ℕ, ◌+◌, ◌≤◌, ◌<◌}
use mathlib.Core.Path.{◌≡◌, refl, sym, ap, ap₂, ◌∙◌}
use mathlib.Core.List.{List, [], ◌∷◌}
use mathlib.Core.Bool.{Bool, true, false, not, ◌||◌, ◌&&◌, or-true}
use native.Mathlib.Numerals.{add-one}
use native.Mathlib.Omega.{arith}
use lib.ListN.{length, drop, get_or}
use lib.Seq.{drop-cons}
use lib.Dec.{ltb, eqb}
use borrow.Author.Tests.{lt-ltb, le-ltb, eq-eqb, ne_eqb, ltb-true, ltb-false}
use Rattle.words.specs.Lists.{any, rises_above, rises}
use Rattle.words.proofs.Lists.{not_among}
use Rattle.reading.specs.Block.{ids_out_of_order}

-- ids are out of order just where they do not rise from above 0 on
pub order_is : (is : List ℕ) → ids_out_of_order is ≡ not (rises_above 0 is)
unfolding ids_out_of_order any rises rises_above
order_is [] = refl
order_is (x ∷ xs) = by (ltb 0 x) refl (rises_above x xs) refl
  where
    by : (t : Bool) → ltb 0 x ≡ t → (u : Bool) → rises_above x xs ≡ u
        → ((eqb x 0 || any (λ x. eqb x 0) xs) || not u) ≡ not (t && u)
    by true p true q = rw (ne_eqb x 0 (λ z. omega (arith, ltb-true 0 x p)), not_among x 0 xs q (omega arith))
    by true p false q = or-true (eqb x 0 || any (λ x. eqb x 0) xs)
    by false p true q = let zero_id : x ≡ 0 = omega (arith, ltb-false 0 x p) in rw (eq-eqb x 0 zero_id)
    by false p false q = or-true (eqb x 0 || any (λ x. eqb x 0) xs)

-- of numbers from i on, the one at i is the next
pub next_at : (is : List ℕ) (i : ℕ) {id : ℕ} → i < length is → id ≡ get_or is i 0 → drop i is ≡ id ∷ drop (i + 1) is
next_at is i h e = drop-cons is i 0 h ∙ ap₂ (λ x k. x ∷ drop k is) (sym e) (sym (add-one i))

-- whether ids rise depends on those left, above the last
module _ (is : List ℕ) (last : ℕ) {left : List ℕ} (asks : rises_above 0 is ≡ rises_above last left) where
  -- the next id is not above the last
  pub order_broken : {id : ℕ} {rest : List ℕ} → left ≡ id ∷ rest → id ≤ last → ids_out_of_order is ≡ true
  unfolding rises_above
  order_broken {id} {rest} turn low =
      let stops : rises_above last (id ∷ rest) ≡ false = rw (le-ltb last id low) in
      order_is is ∙ ap not (asks ∙ ap (rises_above last) turn ∙ stops)

  -- it is, and the walk goes on
  pub order_goes_on : {id : ℕ} {rest : List ℕ} → left ≡ id ∷ rest → last < id → rises_above 0 is ≡ rises_above id rest
  unfolding rises_above
  order_goes_on {id} turn up = asks ∙ ap (rises_above last) turn ∙ rw (lt-ltb last id up)

  -- no id is left
  pub order_holds : left ≡ [] → ids_out_of_order is ≡ false
  unfolding rises_above
  order_holds none = order_is is ∙ ap not (asks ∙ ap (rises_above last) none)
