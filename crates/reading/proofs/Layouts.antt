-- What holds in either format of a file, and what the sizes of both have in common.
use Prim.Native.Nat.{ℕ, ◌+◌, ◌*◌, ◌≤◌, ◌<◌}
use mathlib.Core.Path.{◌≡◌, refl, ◌∙◌}
use mathlib.Core.Bool.{Bool, true, false, cond}
use native.Mathlib.Nat.{mul-le-mul_left}
use native.Mathlib.Omega.{arith}
use borrow.Author.Tests.{eq-eqb, ne_eqb, eqb-true}
use lib.Dec.{eqb}
use Rattle.reading.specs.Interval.{curves_format, by_format, Layout, layout_of}
use Rattle.reading.specs.Kinds.{format_of}
use Rattle.reading.specs.declared.header.Format.TheVariants.{Curves, Schedules}

module _ {A : Type 0} (one two : A) {format : ℕ} where
  -- in format 1 the first of two holds
  pub in_curves : format ≡ curves_format → by_format format one two ≡ one
  in_curves e = rw (eq-eqb format curves_format e)

  -- in any other the second
  pub in_schedules : (format ≡ curves_format → ⊥) → by_format format one two ≡ two
  in_schedules other = rw (ne_eqb format curves_format other)

-- a word that is read as the format of curves is that format's
pub curves_said : {word : ℕ} → Curves ≡ format_of word → word ≡ curves_format
curves_said {word} = by (eqb word curves_format) refl
  where
    by : (t : Bool) → eqb word curves_format ≡ t → Curves ≡ cond t Curves Schedules → word ≡ curves_format
    by true e read = eqb-true word curves_format e
    by false e read = cc

-- one that is read as that of schedules is not
pub schedules_said : {word : ℕ} → Schedules ≡ format_of word → word ≡ curves_format → ⊥
schedules_said {word} read same =
    let other : Schedules ≡ Curves = read ∙ in_curves Curves Schedules same in cc

-- what is true of both is true of the one that holds
pub in_either : {A : Type 0} (P : A → Type 0) {one two : A} → P one → P two → (format : ℕ) → P (by_format format one two)
in_either P {one} {two} first second format = by (eqb format curves_format)
  where
    by : (t : Bool) → P (cond t one two)
    by true = first
    by false = second

-- a header has at least ten words
pub header_least : (format : ℕ) → 40 ≤ (layout_of format).header_bytes
unfolding layout_of
header_least = in_either (λ (l : Layout). 40 ≤ l.header_bytes) (omega arith) (omega arith)

-- that of another format than 1 has twelve
pub header_twelve : {format : ℕ} → (format ≡ curves_format → ⊥) → (layout_of format).header_bytes ≡ 48
unfolding layout_of
header_twelve {format} other = rw (ne_eqb format curves_format other)

-- a row has at least fourteen words
pub row_least : (format : ℕ) → 56 ≤ (layout_of format).row_bytes
unfolding layout_of
row_least = in_either (λ (l : Layout). 56 ≤ l.row_bytes) (omega arith) (omega arith)

-- and at most fifteen
pub row_most : (format : ℕ) → (layout_of format).row_bytes ≤ 60
unfolding layout_of
row_most = in_either (λ (l : Layout). l.row_bytes ≤ 60) (omega arith) (omega arith)

-- a row of format 1 has fourteen
pub row_fourteen : {format : ℕ} → format ≡ curves_format → (layout_of format).row_bytes ≡ 56
unfolding layout_of
row_fourteen {format} same = rw (eq-eqb format curves_format same)

-- one of another format fifteen
pub row_fifteen : {format : ℕ} → (format ≡ curves_format → ⊥) → (layout_of format).row_bytes ≡ 60
unfolding layout_of
row_fifteen {format} other = rw (ne_eqb format curves_format other)

-- an entry of a table that lies within an end lies within it
pub entry_lies : (size n at end i : ℕ) → at + size * n ≤ end → i < n → at + size * i + size ≤ end
entry_lies size n at end i lies below =
    let next : i + 1 ≤ n = omega arith in
    omega (arith, mul-le-mul_left size next)
