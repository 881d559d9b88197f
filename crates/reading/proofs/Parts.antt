-- Words and stretches of a file: where they stand in it, and what a field holds of a signed one.
use Prim.Native.Nat.{ℕ, ◌+◌, ◌-◌, ◌*◌, ◌<◌}
use mathlib.Core.Path.{◌≡◌, ap, ◌∙◌}
use mathlib.Core.List.{List}
use native.Mathlib.Omega.{arith}
use borrow.Author.Rules.{part_to_end}
use lib.ListN.{length, take, drop}
use lib.IntN.{ℤ}
use lib.Signed.{mag}
use mir.Syntax.{w64}
use mir.Val.{to_z, of_z}
use Rattle.words.specs.Words.{number_at, word32, signed}
use Rattle.words.proofs.Access.{number_at_drop}
use Rattle.words.proofs.Ints.{plain}
use Rattle.reading.specs.Interval.{point_bytes, Header, ScheduleWords, header_of, curve_part}

-- a field that holds the signed number of a word holds that of any word equal to it
pub signed_field : (z : ℤ) {w v : ℕ} → z ≡ signed w → mag z < 2147483648 → w ≡ v → to_z w64 (of_z w64 z) ≡ signed v
signed_field z is small same = plain z (omega arith) ∙ is ∙ ap signed same

-- word k of a part of a buffer stands further on in the whole
pub word_part : (p : ℕ) (b : List ℕ) (k : ℕ) → word32 (drop p b) k ≡ number_at 4 b (p + 4 * k)
unfolding word32
word_part p b k = number_at_drop 4 p b (4 * k)

-- a part of a buffer that goes to its end
pub part_at : (b : List ℕ) (a at : ℕ) → a ≡ at → take (length b - a) (drop a b) ≡ drop at b
part_at b a at e = part_to_end b a ∙ ap (λ k. drop k b) e

-- the part of a file from a schedule's first point on, the header's offset being known
pub curve_part_lem : (f : List ℕ) (h : Header) (s : ScheduleWords) → h ≡ header_of f
    → (let at = h.points_offset + point_bytes * s.first in take (length f - at) (drop at f) ≡ curve_part f s)
unfolding curve_part
curve_part_lem f h s says = rw (← says) (part_to_end f (h.points_offset + point_bytes * s.first))
