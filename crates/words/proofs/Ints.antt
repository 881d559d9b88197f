-- Signed numbers: what a local holds of one, and differences as natural numbers, each law by cases on the signs.
use Prim.Native.Nat.{ℕ, zero, suc, ◌+◌, ◌-◌, ◌≤◌, ◌<◌}
use mathlib.Core.Bool.{Bool, true, false, cond}
use mathlib.Core.Path.{◌≡◌, refl, sym, ap, subst, ◌∙◌}
use native.Mathlib.Omega.{arith}
use borrow.Author.Tests.{leb-true, leb-false, le-leb, le-ltb, lt-ltb}
use lib.Dec.{T, ltb}
use lib.IntN.{ℤ, pos, negsuc, sub_ℕ, ◌+ℤ◌, ◌-ℤ◌}
use lib.Signed.{le_z, mag}
use mir.Syntax.{w32, w64}
use mir.Val.{to_z, of_z}
use mir.ValLaws.{to_z-of_z}
use Rattle.words.specs.Words.{signed}

-- a signed local holds bits, and what is read back from them is the number
pub plain : (z : ℤ) → mag z < 9223372036854775808 → to_z w64 (of_z w64 z) ≡ z
plain z h = to_z-of_z w64 z (record { sfits = h })

-- how far a stands above b, 0 where it does not
abbrev pub gap_of : ℤ → ℤ → ℕ
gap_of (pos a) (pos b) = a - b
gap_of (pos a) (negsuc b) = a + suc b
gap_of (negsuc a) (pos b) = 0
gap_of (negsuc a) (negsuc b) = b - a

-- anything follows where false is true, which closes the cases that cannot be
pub never {ℓ} : {X : Type ℓ} → false ≡ true → X
never e = absurd (subst T (sym e) tt)

-- a number less another that is not larger is their difference, and not negative
sub_pos : (a b : ℕ) → b ≤ a → sub_ℕ a b ≡ pos (a - b)
sub_pos a b h = rw (le-ltb a b h)

-- where b is at or below a, a less b is the gap between them
pub diff : (a b : ℤ) → le_z b a ≡ true → a -ℤ b ≡ pos (gap_of a b)
diff (pos a) (pos zero) e = ap pos (omega arith)
diff (pos a) (pos (suc b)) e = sub_pos a (suc b) (leb-true (suc b) a e)
diff (pos a) (negsuc b) e = refl
diff (negsuc a) (pos b) e = never e
diff (negsuc a) (negsuc b) e = sub_pos (suc b) (suc a) (omega (arith, leb-true a b e)) ∙ ap pos (omega arith)

-- a gap is at most the sizes of both numbers and 1
pub gap_le : (a b : ℤ) → gap_of a b ≤ mag a + mag b + 1
gap_le (pos a) (pos b) = omega arith
gap_le (pos a) (negsuc b) = omega arith
gap_le (negsuc a) (pos b) = omega arith
gap_le (negsuc a) (negsuc b) = omega arith

-- where p is at or below l and q above l, the gap from p to l is below that from p to q
pub gap_lt : (p l q : ℤ) → le_z p l ≡ true → le_z q l ≡ false → gap_of l p < gap_of q p
gap_lt (pos p) (pos l) (pos q) e f = omega (arith, leb-true, leb-false)
gap_lt (pos p) (pos l) (negsuc q) e f = never (sym f)
gap_lt (pos p) (negsuc l) q e f = never e
gap_lt (negsuc p) (pos l) (pos q) e f = omega (arith, leb-false)
gap_lt (negsuc p) (pos l) (negsuc q) e f = never (sym f)
gap_lt (negsuc p) (negsuc l) (pos q) e f = omega arith
gap_lt (negsuc p) (negsuc l) (negsuc q) e f = omega (arith, leb-true, leb-false)

-- where p and q have sizes below n, so has l, which is between them
pub mag_between : (n : ℕ) (p l q : ℤ) → le_z p l ≡ true → le_z q l ≡ false → mag p < n → mag q < n → mag l < n
mag_between n (pos p) (pos l) (pos q) e f h k = omega (arith, leb-true, leb-false)
mag_between n (pos p) (pos l) (negsuc q) e f h k = never (sym f)
mag_between n (pos p) (negsuc l) q e f h k = never e
mag_between n (negsuc p) (pos l) (pos q) e f h k = omega (arith, leb-false)
mag_between n (negsuc p) (pos l) (negsuc q) e f h k = never (sym f)
mag_between n (negsuc p) (negsuc l) q e f h k = omega (arith, leb-true)

-- p, at or below l, is at or below q, which is above l
pub le_over : (p l q : ℤ) → le_z p l ≡ true → le_z q l ≡ false → le_z p q ≡ true
le_over (pos p) (pos l) (pos q) e f = le-leb p q (omega (arith, leb-true, leb-false))
le_over (pos p) (pos l) (negsuc q) e f = never (sym f)
le_over (pos p) (negsuc l) q e f = never e
le_over (negsuc p) l (pos q) e f = refl
le_over (negsuc p) (pos l) (negsuc q) e f = never (sym f)
le_over (negsuc p) (negsuc l) (negsuc q) e f = le-leb q p (omega (arith, leb-true, leb-false))

-- a smaller number less a larger one
less_larger : (x n : ℕ) → x < n → pos x -ℤ pos n ≡ negsuc (n - suc x)
less_larger x zero h = absurd (omega arith)
less_larger x (suc n) h = rw (lt-ltb x (suc n) h)

-- what the bits of a word are as a signed number
pub signed_bits : (w bits : ℕ) → bits ≡ w → w < 4294967296 → to_z w32 bits ≡ signed w
unfolding signed
signed_bits w bits same h = rw same (by (ltb w 2147483648))
  where
    by : (t : Bool) → cond t (pos w) (negsuc (4294967296 - suc w)) ≡ cond t (pos w) (pos w -ℤ pos 4294967296)
    by true = refl
    by false = sym (less_larger w 4294967296 h)

-- of two natural numbers, one less the other has at most the size of their sum
mag_cond : (t : Bool) (a b : ℕ) → mag (cond t (negsuc (b - suc a)) (pos (a - b))) ≤ a + b
mag_cond true a b = omega arith
mag_cond false a b = omega arith

-- the size of a sum is at most the sizes of both numbers and 1
pub mag_sum : (a b : ℤ) → mag (a +ℤ b) ≤ mag a + mag b + 1
mag_sum (pos a) (pos b) = omega arith
mag_sum (pos a) (negsuc b) = omega (arith, mag_cond (ltb a (suc b)) a (suc b))
mag_sum (negsuc a) (pos b) = omega (arith, mag_cond (ltb b (suc a)) b (suc a))
mag_sum (negsuc a) (negsuc b) = omega arith
