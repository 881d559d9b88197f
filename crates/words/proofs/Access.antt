-- Laws between the definitions of words and the code that reads and writes them, over the width and the place.
use Prim.Native.Nat.{ℕ, zero, suc, ◌+◌, ◌-◌, ◌*◌, ◌/◌, ◌%◌, ◌^◌, ◌≤◌}
use mathlib.Core.Path.{◌≡◌, refl, sym, ap, ap₂, ◌∙◌}
use mathlib.Core.List.{List, [], ◌∷◌, ◌++◌, append_assoc, append-nil}
use native.Mathlib.Nat.{
  add-suc,
  suc-add,
  add-zero,
  zero-add,
  pow-zero,
  pow-succ',
  mul_assoc,
  div-one,
  div-div-eq-div-mul,
}
use native.Mathlib.Omega.{arith}
use borrow.Author.Rules.{part_to_end}
use borrow.Rule.Slice.PartMut.{put_mid}
use lib.ListN.{length, take, drop, get_or, length-append, length-drop, drop_of_length-le}
use lib.Seq.{drop-drop, drop_at, length-take-le}
use Rattle.words.specs.Words.{number, bytes_of, number_at, bytes_of_words, placed_at, written, written_at}
use Rattle.words.proofs.Words.{length_bytes_of_words, length_written, beyond_written}
use Rattle.words.proofs.Placing.{place_none, place_more}

-- no bytes hold 0
number_nil : (n : ℕ) → number n [] ≡ 0
unfolding number
number_nil zero = refl
number_nil (suc n) = refl

-- a number's first byte, and the rest of it
pub first_byte : (n : ℕ) (b : List ℕ) (at : ℕ) → number_at (suc n) b at ≡ get_or b at 0 + 256 * number_at n b (suc at)
unfolding number_at number
first_byte n [] zero = omega (arith, number_nil n)
first_byte n [] (suc at) = omega (arith, number_nil n)
first_byte n (x ∷ b) zero = refl
first_byte n (x ∷ b) (suc at) = first_byte n b at

-- a number of m + n bytes is one of m and one of n
pub split_number : (m n : ℕ) (b : List ℕ) (at : ℕ)
    → number_at (m + n) b at ≡ number_at m b at + 256 ^ m * number_at n b (at + m)
split_number zero n b at = rw (zero-add n, add-zero at) (unfold number_at number in omega arith)
split_number (suc m) n b at =
    ap (λ k. number_at k b at) (suc-add m n)
    ∙ first_byte (m + n) b at
    ∙ ap (λ rest. get_or b at 0 + 256 * rest) (split_number m n b (suc at))
    ∙ rw (first_byte m b at, pow-succ' 256 m, mul_assoc 256 (256 ^ m), suc-add at m, add-suc at m) (omega arith)

-- a number of four bytes
pub four_bytes : (b : List ℕ) (at : ℕ)
    → number_at 4 b at ≡ get_or b at 0 + 256 * get_or b (at + 1) 0 + 65536 * get_or b (at + 2) 0 + 16777216 * get_or b (at + 3) 0
four_bytes b at =
    let none : number_at 0 b (suc (suc (suc (suc at)))) ≡ 0 = unfold number_at number in refl in
    let one : at + 1 ≡ suc at = omega arith in
    let two : at + 2 ≡ suc (suc at) = omega arith in
    let three : at + 3 ≡ suc (suc (suc at)) = omega arith in
    rw (one, two, three)
    (omega (arith, first_byte 3 b at, first_byte 2 b (suc at), first_byte 1 b (suc (suc at)), first_byte 0 b (suc (suc (suc at))), none))

-- a number in a part of a buffer stands further on in the whole
pub number_at_drop : (n p : ℕ) (b : List ℕ) (at : ℕ) → number_at n (drop p b) at ≡ number_at n b (p + at)
unfolding number_at
number_at_drop n p b at = ap (number n) (drop-drop at p b)

-- a number's m + n bytes are its m lowest and n of the rest
pub split_bytes : (m n v : ℕ) → bytes_of (m + n) v ≡ bytes_of m v ++ bytes_of n (v / 256 ^ m)
unfolding bytes_of
split_bytes zero n v = rw (zero-add n, pow-zero 256, div-one v)
split_bytes (suc m) n v =
    ap (λ k. bytes_of k v) (suc-add m n)
    ∙ ap (λ rest. v % 256 ∷ rest) (split_bytes m n (v / 256) ∙ ap (λ q. bytes_of m (v / 256) ++ bytes_of n q) (div-div-eq-div-mul v 256 (256 ^ m) ∙ ap (λ k. v / k) (sym (pow-succ' 256 m))))

-- words written at a place are their bytes placed there
pub written_placed : (at : ℕ) (ws b : List ℕ) → written_at at ws b ≡ placed_at at (bytes_of_words 8 ws) b
unfolding written_at written placed_at
written_placed at ws b =
    let new = bytes_of_words 8 ws in
    ap (λ rest. take at b ++ (new ++ rest)) (drop-drop (8 * length ws) at b ∙ ap (λ k. drop (at + k) b) (sym (length_bytes_of_words 8 ws)))
    ∙ sym (append_assoc (take at b) new (drop (at + length new) b))

-- words written at the front are their bytes placed there
pub front_placed : (ws b : List ℕ) → written ws b ≡ placed_at 0 (bytes_of_words 8 ws) b
unfolding written_at
front_placed ws b = written_placed 0 ws b

-- one word written at a place is its bytes placed there
pub word_placed : (at v : ℕ) (b : List ℕ) → written_at at (v ∷ []) b ≡ placed_at at (bytes_of 8 v) b
unfolding bytes_of_words
word_placed at v b = written_placed at (v ∷ []) b ∙ ap (λ bs. placed_at at bs b) (append-nil (bytes_of 8 v))

-- words of two lists, one list after the other
pub words_append : (n : ℕ) (ws vs : List ℕ) → bytes_of_words n (ws ++ vs) ≡ bytes_of_words n ws ++ bytes_of_words n vs
unfolding bytes_of_words
words_append n [] vs = refl
words_append n (w ∷ ws) vs = ap (λ rest. bytes_of n w ++ rest) (words_append n ws vs)
    ∙ sym (append_assoc (bytes_of n w) (bytes_of_words n ws) (bytes_of_words n vs))

-- writing no words changes nothing
pub write_none : (at : ℕ) (b : List ℕ) → written_at at [] b ≡ b
unfolding bytes_of_words
write_none at b = written_placed at [] b ∙ place_none at b

-- writing words behind words that have just been written
pub write_more : (at : ℕ) (ws vs b : List ℕ) → at + 8 * length ws ≤ length b
    → written_at (at + 8 * length ws) vs (written_at at ws b) ≡ written_at at (ws ++ vs) b
write_more at ws vs b h =
    let new = bytes_of_words 8 ws in
    let n = length_bytes_of_words 8 ws in
    let end : at + 8 * length ws ≡ at + length new = omega (arith, n) in
    written_placed (at + 8 * length ws) vs (written_at at ws b)
    ∙ ap₂ (λ k l. placed_at k (bytes_of_words 8 vs) l) end (written_placed at ws b)
    ∙ place_more at new (bytes_of_words 8 vs) b (omega (arith, n))
    ∙ ap (λ bs. placed_at at bs b) (sym (words_append 8 ws vs))
    ∙ sym (written_placed at (ws ++ vs) b)

-- writing at a place where there is room keeps the length
pub length_written_at : (at : ℕ) (ws b : List ℕ) → at + 8 * length ws ≤ length b → length (written_at at ws b) ≡ length b
unfolding written_at
length_written_at at ws b h =
    let n = length-drop at b in
    omega (arith, length-append (take at b) (written ws (drop at b)), length-take-le at b (omega arith), length_written ws (drop at b) (omega arith), n)

-- the bytes beyond words that have been written at a place are as they were
pub beyond_kept : (at : ℕ) (ws b : List ℕ) → at + 8 * length ws ≤ length b
    → drop (at + 8 * length ws) (written_at at ws b) ≡ drop (at + 8 * length ws) b
unfolding written_at
beyond_kept at ws b room =
    sym (drop-drop (8 * length ws) at (take at b ++ written ws (drop at b)))
    ∙ ap (drop (8 * length ws)) (drop_at (take at b) (written ws (drop at b)) at (length-take-le at b (omega arith)))
    ∙ beyond_written ws (drop at b)
    ∙ drop-drop (8 * length ws) at b

-- words written behind words at the front are written there with them
pub written_behind : (ws vs b x y : List ℕ) → 8 * length ws ≤ length b → x ≡ written ws b
    → y ≡ written_at (8 * length ws) vs x → y ≡ written (ws ++ vs) b
unfolding written_at
written_behind ws vs b x y room front behind =
    let more = write_more 0 ws vs b in
    behind ∙ ap (written_at (8 * length ws) vs) front ∙ (rw zero-add at more) room

-- a buffer whose part from a place on was lent, and had words written at its front, has them at the place
pub part_written : (at : ℕ) (ws b part : List ℕ) → part ≡ placed_at 0 (bytes_of_words 8 ws) (take (length b - at) (drop at b))
    → put_mid at (length b - at) b part ≡ written_at at ws b
unfolding written_at
part_written at ws b part put =
    let end : length (drop at b) ≤ length b - at = omega (arith, length-drop at b) in
    let none : drop (length b - at) (drop at b) ≡ [] = drop_of_length-le (drop at b) end in
    ap (λ l. take at b ++ l) (ap (λ l. part ++ l) none ∙ append-nil part ∙ put ∙ sym (front_placed ws (take (length b - at) (drop at b))) ∙ ap (written ws) (part_to_end b at))
