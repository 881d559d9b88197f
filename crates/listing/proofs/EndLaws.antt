-- The laws of the first block and the later ones, and of the steps of a listing.
use Prim.Native.Nat.{ℕ}
use mathlib.Core.Path.{◌≡◌, refl, sym, ap}
use mathlib.Core.List.{List, [], ◌++◌}
use mathlib.Core.Bool.{Bool, false, cond}
use lib.Dec.{eqb}
use borrow.Author.Tests.{eq-eqb, ne_eqb}
use Rattle.stream.specs.Stream.{End, Next}
use Rattle.stream.specs.Steps.{Outcome, step}
use Rattle.stream.specs.Code.{StepTaken}
use Rattle.listing.specs.Npalist.{opening_listed, interval_listed, block_listed, end_lines, listing_steps}
use Rattle.listing.specs.Lines.{bytes_of_lines}
use Rattle.listing.specs.Code.{in_bytes}

-- the opening, block 0, has the first of two
pub at_first : {A : Type 0} (number : ℕ) (a b : A) → number ≡ 0 → cond (eqb number 0) a b ≡ a
at_first number a b e = rw (eq-eqb number 0 e)

-- a later block has the second
pub at_later : {A : Type 0} (number : ℕ) (a b : A) → (number ≡ 0 → ⊥) → cond (eqb number 0) a b ≡ b
at_later number a b e = rw (ne_eqb number 0 e)

-- a step that put its bytes into an empty buffer, by another name of its outcome
pub taken_as : {S : Type 0} (o m : Outcome ℕ S) (state : S) (before after : List ℕ) (on : Bool) → before ≡ [] → o ≡ m
    → StepTaken m state before after on → StepTaken o state [] after on
taken_as o m state before after on none same taken = rw (same, ← none) taken

-- the step of a listing on a block, once it is opened or settled
pub block_taken : (number : ℕ) (l m block before out after : List ℕ) (on : Bool) → m ≡ l → before ≡ []
    → StepTaken (in_bytes (block_listed number m block)) after before out on
    → StepTaken (in_bytes (step listing_steps number l (Next.block block []))) after [] out on
unfolding step listing_steps
block_taken number l m block before out after on same none taken =
    taken_as _ _ after before out on none (ap (λ l. in_bytes (block_listed number l block)) (sym same)) taken

-- on the opening, once it is opened
pub opening_taken : (number : ℕ) (l m block before out after : List ℕ) (on : Bool) → number ≡ 0 → m ≡ l → before ≡ []
    → StepTaken (in_bytes (opening_listed m block)) after before out on
    → StepTaken (in_bytes (step listing_steps number l (Next.block block []))) after [] out on
unfolding block_listed
opening_taken number l m block before out after on first same none taken =
    block_taken number l m block before out after on same none (rw (at_first number _ _ first) taken)

-- and on an interval block, once it is settled
pub interval_taken : (number : ℕ) (l m block before out after : List ℕ) (on : Bool) → (number ≡ 0 → ⊥) → m ≡ l
    → before ≡ []
    → StepTaken (in_bytes (interval_listed number m block)) after before out on
    → StepTaken (in_bytes (step listing_steps number l (Next.block block []))) after [] out on
unfolding block_listed
interval_taken number l m block before out after on later same none taken =
    block_taken number l m block before out after on same none (rw (at_later number _ _ later) taken)

-- and where the stream stops, once its line is put
pub end_taken : (number : ℕ) (l before out : List ℕ) (e : End) → before ≡ []
    → out ≡ before ++ bytes_of_lines (end_lines number e)
    → StepTaken (in_bytes (step listing_steps number l (Next.stop e))) l [] out false
unfolding step listing_steps in_bytes
end_taken number l before out e none put = record { leaves = refl; puts = rw none at put; goes_on = refl }
