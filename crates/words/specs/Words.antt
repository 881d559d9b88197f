-- Little-endian words in byte buffers. A buffer is the list of its bytes.
use Rattle.std.specs.Prelude.{ℕ, zero, suc, ◌+◌, ◌*◌, ◌/◌, ◌%◌, ◌^◌, ◌<◌, List, [], ◌∷◌, ◌++◌, cond, length, take, drop, get_or, ℤ, pos, ◌-ℤ◌, ltb}

-- a list that a byte buffer can hold
abbrev pub Bytes : List ℕ → Type 0
Bytes b = (i : ℕ) → get_or b i 0 < 256

-- the number that the first n bytes hold, the lowest byte first
unfoldable pub number : ℕ → List ℕ → ℕ
number zero b = 0
number (suc n) [] = 0
number (suc n) (x ∷ b) = x + 256 * number n b

-- the n bytes of a number, the lowest first
unfoldable pub bytes_of : ℕ → ℕ → List ℕ
bytes_of zero v = []
bytes_of (suc n) v = v % 256 ∷ bytes_of n (v / 256)

-- the number in the n bytes at a byte offset
unfoldable pub number_at : ℕ → List ℕ → ℕ → ℕ
number_at n b at = number n (drop at b)

-- word k of a file, an opening block or a part of one: 32 bits
unfoldable pub word32 : List ℕ → ℕ → ℕ
word32 b k = number_at 4 b (4 * k)

-- word k of a ledger, a result or a part of one: 64 bits
unfoldable pub word64 : List ℕ → ℕ → ℕ
word64 b k = number_at 8 b (8 * k)

-- a 32-bit word as a signed number, in two's complement
unfoldable pub signed : ℕ → ℤ
signed w = cond (ltb w (2 ^ 31)) (pos w) (pos w -ℤ pos (2 ^ 32))

-- the n entries of a table of so many bytes each, which begins at the front of b
unfoldable pub entries : {A : Type 0} → ℕ → (List ℕ → A) → ℕ → List ℕ → List A
entries size read zero b = []
entries size read (suc n) b = read b ∷ entries size read n (drop size b)

-- the first n words of a ledger, a result or a part of one
unfoldable pub words_in : ℕ → List ℕ → List ℕ
words_in = entries 8 (λ b. word64 b 0)

-- the bytes of words of n bytes each, one word after the other
unfoldable pub bytes_of_words : ℕ → List ℕ → List ℕ
bytes_of_words n [] = []
bytes_of_words n (w ∷ ws) = bytes_of n w ++ bytes_of_words n ws

-- a buffer with these bytes at a place, and the bytes before and beyond them as they were
unfoldable pub placed_at : ℕ → List ℕ → List ℕ → List ℕ
placed_at at bs b = take at b ++ bs ++ drop (at + length bs) b

-- a buffer with these 64-bit words at its front, and the bytes beyond them as they were
unfoldable pub written : List ℕ → List ℕ → List ℕ
written ws b = bytes_of_words 8 ws ++ drop (8 * length ws) b

-- the same from a byte offset on, and the bytes before it as they were
unfoldable pub written_at : ℕ → List ℕ → List ℕ → List ℕ
written_at at ws b = take at b ++ written ws (drop at b)
