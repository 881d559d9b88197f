-- The laws of numbers in bytes and of tables, over the width, the place and the entry.
use Prim.Native.Nat.{ℕ, zero, suc, ◌+◌, ◌*◌, ◌/◌, ◌^◌, ◌<◌, ◌≤◌}
use mathlib.Core.Path.{◌≡◌, refl, sym, ap, ap₂, ◌∙◌}
use mathlib.Core.Logic.{⊎_elim}
use mathlib.Core.List.Memᴰ
use mathlib.Core.List.{
  List,
  [],
  ◌∷◌,
  ◌++◌,
  append_assoc,
  Memᴰ,
}
use native.Mathlib.Omega.{arith}
use lib.ListN.{length, drop, get_or, length-append, length-drop}
use lib.Seq.{get_or-drop, drop_at, drop-drop}
use Rattle.words.specs.Words.{Bytes, number, bytes_of, number_at, entries, bytes_of_words, written}

-- n bytes of a number are n
pub length_bytes_of : (n v : ℕ) → length (bytes_of n v) ≡ n
unfolding bytes_of
length_bytes_of zero v = refl
length_bytes_of (suc n) v = ap suc (length_bytes_of n (v / 256))

-- a number that fits n bytes is read back from them
pub number_bytes_of : (n v : ℕ) (rest : List ℕ) → v < 256 ^ n → number n (bytes_of n v ++ rest) ≡ v
unfolding number bytes_of
number_bytes_of zero v rest h = omega arith
number_bytes_of (suc n) v rest h =
    let low : v / 256 < 256 ^ n = omega arith in
    omega (arith, number_bytes_of n (v / 256) rest low)

-- n bytes hold a number below 256 ^ n
pub number_lt : (n : ℕ) (b : List ℕ) → Bytes b → number n b < 256 ^ n
unfolding number
number_lt zero b bytes = omega arith
number_lt (suc n) [] bytes = omega (arith, number_lt n [] bytes)
number_lt (suc n) (x ∷ b) bytes = omega (arith, bytes 0, number_lt n b (λ i. bytes (suc i)))

-- a part of a byte buffer is one
pub drop_bytes : (k : ℕ) (b : List ℕ) → Bytes b → Bytes (drop k b)
drop_bytes k b bytes i = rw (get_or-drop k b i 0) (bytes (k + i))

-- so every word of a byte buffer is below 256 ^ n
pub number_at_lt : (n : ℕ) (b : List ℕ) (at : ℕ) → Bytes b → number_at n b at < 256 ^ n
unfolding number_at
number_at_lt n b at bytes = number_lt n (drop at b) (drop_bytes at b bytes)

module _ {A : Type 0} (size : ℕ) (read : List ℕ → A) where
  -- a table of n entries has n
  pub length_entries : (n : ℕ) (b : List ℕ) → length (entries size read n b) ≡ n
  unfolding entries
  length_entries zero b = refl
  length_entries (suc n) b = ap suc (length_entries n (drop size b))

  -- entry i of a table is read where it begins
  pub entry_at : (n : ℕ) (b : List ℕ) (i : ℕ) (d : A) → i < n
      → get_or (entries size read n b) i d ≡ read (drop (size * i) b)
  unfolding entries
  entry_at zero b i d h = absurd (omega arith)
  entry_at (suc n) b zero d h = let front : size * 0 ≡ 0 = omega arith in rw front
  entry_at (suc n) b (suc i) d h =
      let next : size + size * i ≡ size * suc i = omega arith in
      entry_at n (drop size b) i d (omega arith) ∙ ap read (drop-drop (size * i) size b ∙ ap (λ k. drop k b) next)

  -- what holds of each entry that is read from bytes holds of each member of a table
  pub entries_all : (P : A → Type 0) → ((b : List ℕ) → Bytes b → P (read b)) → (n : ℕ) (b : List ℕ) → Bytes b → (x : A)
      → Memᴰ x (entries size read n b) → P x
  unfolding entries
  entries_all P each zero b bytes x m = absurd (Memᴰ.not-nil m)
  entries_all P each (suc n) b bytes x m =
      ⊎_elim (λ e. rw e (each b bytes)) (entries_all P each n (drop size b) (drop_bytes size b bytes) x)
      (Memᴰ.cases_cons m)

  -- a table whose entries have been written one after the other is read back, where each fits
  pub entries_back : (write : List A → List ℕ) (rest : List ℕ) (Fits : A → Type 0)
      → ((x : A) (xs : List A) → Fits x → read (write (x ∷ xs) ++ rest) ≡ x)
      → ((x : A) (xs : List A) → drop size (write (x ∷ xs) ++ rest) ≡ write xs ++ rest)
      → (xs : List A) → ((x : A) → Memᴰ x xs → Fits x) → entries size read (length xs) (write xs ++ rest) ≡ xs
  unfolding entries
  entries_back write rest Fits back next [] fit = refl
  entries_back write rest Fits back next (x ∷ xs) fit =
      let later = entries_back write rest Fits back next xs (λ y m. fit y (Memᴰ.tail m)) in
      ap₂ ◌∷◌ (back x xs (fit x (Memᴰ.head refl))) (ap (entries size read (length xs)) (next x xs) ∙ later)

-- words of n bytes each take n bytes each
pub length_bytes_of_words : (n : ℕ) (ws : List ℕ) → length (bytes_of_words n ws) ≡ n * length ws
unfolding bytes_of_words
length_bytes_of_words n [] = omega arith
length_bytes_of_words n (w ∷ ws) =
    omega (arith, length-append (bytes_of n w) (bytes_of_words n ws), length_bytes_of n w, length_bytes_of_words n ws)

-- writing words where there is room for them keeps a buffer's length
pub length_written : (ws b : List ℕ) → 8 * length ws ≤ length b → length (written ws b) ≡ length b
unfolding written
length_written ws b h =
    omega (arith, length-append (bytes_of_words 8 ws) (drop (8 * length ws) b), length-drop (8 * length ws) b, length_bytes_of_words 8 ws)

-- the bytes beyond words that have been written are as they were
pub beyond_written : (ws b : List ℕ) → drop (8 * length ws) (written ws b) ≡ drop (8 * length ws) b
unfolding written
beyond_written ws b = drop_at (bytes_of_words 8 ws) (drop (8 * length ws) b) (8 * length ws) (length_bytes_of_words 8 ws)

-- the first of words of n bytes each that have been written is read back, where it fits
pub first_word : (n w : ℕ) (ws rest : List ℕ) → w < 256 ^ n → number n (bytes_of_words n (w ∷ ws) ++ rest) ≡ w
unfolding bytes_of_words
first_word n w ws rest h =
    rw (append_assoc (bytes_of n w) (bytes_of_words n ws) rest) (number_bytes_of n w (bytes_of_words n ws ++ rest) h)

-- behind the bytes of the first word stand those of the others
pub next_words : (n w : ℕ) (ws rest : List ℕ) → drop n (bytes_of_words n (w ∷ ws) ++ rest) ≡ bytes_of_words n ws ++ rest
unfolding bytes_of_words
next_words n w ws rest = rw (append_assoc (bytes_of n w) (bytes_of_words n ws) rest)
    (drop_at (bytes_of n w) (bytes_of_words n ws ++ rest) n (length_bytes_of n w))

-- words of n bytes each that have been written are read back, where they fit
pub words_back : (n : ℕ) (ws rest : List ℕ) → ((w : ℕ) → Memᴰ w ws → w < 256 ^ n)
    → entries n (number n) (length ws) (bytes_of_words n ws ++ rest) ≡ ws
words_back n ws rest = entries_back n (number n) (bytes_of_words n) rest (λ w. w < 256 ^ n)
    (λ w vs. first_word n w vs rest) (λ w vs. next_words n w vs rest) ws

-- each of them by itself is read back too
pub word_back : (n : ℕ) (ws rest : List ℕ) (k : ℕ) → ((w : ℕ) → Memᴰ w ws → w < 256 ^ n) → k < length ws
    → number n (drop (n * k) (bytes_of_words n ws ++ rest)) ≡ get_or ws k 0
word_back n ws rest k fit h = sym (entry_at n (number n) (length ws) (bytes_of_words n ws ++ rest) k 0 h)
    ∙ ap (λ l. get_or l k 0) (words_back n ws rest fit)
