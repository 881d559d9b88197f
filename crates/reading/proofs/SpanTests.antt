-- What tests of a buffer's length, its format and the place of a stretch in it say.
use Prim.Native.Nat.{ℕ, ◌+◌, ◌≤◌, ◌<◌}
use mathlib.Core.Path.{◌≡◌, refl, sym}
use mathlib.Core.List.{List}
use mathlib.Core.Bool.{Bool, true, false, cond, not}
use native.Mathlib.Omega.{arith}
use borrow.Author.Tests.{lt-ltb, le-ltb, ltb-true, ltb-false, ne_eqb, eqb-true}
use lib.ListN.{length}
use lib.Dec.{ltb, eqb}
use Rattle.std.proofs.Common.{inl, inr}
use mathlib.Core.Logic.{⊎_elim}
use Rattle.words.specs.Words.{word32}
use Rattle.words.specs.Grounds.{outside, lies_from}
use Rattle.words.proofs.Ints.{never}
use Rattle.words.proofs.Tests.{not_outside, facts}
use Rattle.reading.specs.Formats.{format_bytes, Sizes, sizes_outside, not_of_formats, FormatNone}

-- two comparisons that say the same
pub same_test : (a b c d : ℕ) → (a < b → c < d) → (b ≤ a → d ≤ c) → ltb a b ≡ ltb c d
same_test a b c d up down = by (ltb a b) refl
  where
    by : (t : Bool) → ltb a b ≡ t → t ≡ ltb c d
    by true e = sym (lt-ltb c d (up (ltb-true a b e)))
    by false e = sym (le-ltb c d (down (ltb-false a b e)))

-- a buffer that begins with the word of no format is of neither of two, whose sizes have room for that word
pub of_no_format : (one two : Sizes) (b : List ℕ) → FormatNone b → format_bytes ≤ one.least → format_bytes ≤ two.least
    → not_of_formats one two b ≡ true
unfolding not_of_formats sizes_outside outside
of_no_format one two b (inl short) p q =
    rw (lt-ltb (length b) one.least (omega arith), lt-ltb (length b) two.least (omega arith))
    (by (eqb (word32 b 0) 1) (eqb (word32 b 0) 2))
  where
    by : (s t : Bool) → cond s true (cond t true true) ≡ true
    by true t = refl
    by false true = refl
    by false false = refl
of_no_format one two b (inr other) p q =
    let one : (word32 b 0 ≡ 1 → ⊥) = ⊎_elim (λ low same. omega arith) (λ high same. omega arith) other in
    let two : (word32 b 0 ≡ 2 → ⊥) = ⊎_elim (λ low same. omega arith) (λ high same. omega arith) other in
    rw (ne_eqb (word32 b 0) 1 one, ne_eqb (word32 b 0) 2 two)

-- a buffer that is of one of two formats, with sizes by the format, has the least bytes of its own
pub has_least : (sizes : ℕ → Sizes) (b : List ℕ) → not_of_formats (sizes 1) (sizes 2) b ≡ false
    → (sizes (word32 b 0)).least ≤ length b
unfolding not_of_formats sizes_outside
has_least sizes b = by (eqb (word32 b 0) 1) refl (eqb (word32 b 0) 2) refl
  where
    outside_by : ℕ → Bool
    outside_by format = outside (sizes format).least (sizes format).most (length b)

    inside : (format : ℕ) → word32 b 0 ≡ format → outside_by format ≡ false → (sizes (word32 b 0)).least ≤ length b
    inside format e range = rw e (not_outside (sizes format).least (sizes format).most (length b) range).0

    by : (s : Bool) → eqb (word32 b 0) 1 ≡ s → (t : Bool) → eqb (word32 b 0) 2 ≡ t
        → cond s (outside_by 1) (cond t (outside_by 2) true) ≡ false → (sizes (word32 b 0)).least ≤ length b
    by true p t q range = inside 1 (eqb-true (word32 b 0) 1 p) range
    by false p true q range = inside 2 (eqb-true (word32 b 0) 2 q) range
    by false p false q range = never (sym range)

-- a stretch that is not out of place ends within the end
pub stretch_lies : (first end at bytes : ℕ) → not (lies_from first end at bytes) ≡ false → at + bytes ≤ end
unfolding lies_from
stretch_lies first end at bytes e = search facts
