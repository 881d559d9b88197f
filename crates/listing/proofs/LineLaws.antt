-- The laws of lines: a number before a comma or a newline, and a line of words as its first word and the rest.
use Prim.Native.Nat.{ℕ, zero, suc, ◌+◌, ◌*◌, ◌≤◌, ◌<◌}
use mathlib.Core.Path.{◌≡◌, refl, sym, ap, ◌∙◌}
use mathlib.Core.List.{List, [], ◌∷◌, ◌++◌, append_assoc, append-nil}
use native.Mathlib.Numerals.{add-one}
use native.Mathlib.Omega.{arith}
use lib.ListN.{length, drop, get_or, drop_of_length-le}
use lib.Seq.{drop-drop, drop-cons}
use Rattle.words.specs.Words.{number, number_at, word64, entries, words_in}
use Rattle.listing.specs.Lines.{text, decimal, line, Line, bytes_of_line, bytes_of_lines}
use Rattle.listing.specs.Npalist.{row_line, pool_line}

-- what is left to put, once its first part is put
pub put_rest : (before front rest left after goal : List ℕ) → after ≡ before ++ front → left ≡ front ++ rest
    → before ++ left ≡ goal → after ++ rest ≡ goal
put_rest before front rest left after goal put split all =
    ap (λ l. l ++ rest) put ∙ append_assoc before front rest ∙ ap (λ l. before ++ l) (sym split) ∙ all

-- what is left of a line from a number on that is not the last: the number, a comma and the rest
pub line_turn : (i v : ℕ) (ns : List ℕ) → i + 1 < length ns → v ≡ get_or ns i 0
    → line (drop i ns) ≡ (decimal v ++ 44 ∷ []) ++ line (drop (i + 1) ns)
unfolding text line
line_turn i v ns h e =
    let next : suc i < length ns = omega arith in
    let here = drop-cons ns i 0 (omega arith) in
    let rest = drop-cons ns (suc i) 0 next in
    rw (e, add-one, here, rest) refl

-- and from its last number on: the number and a newline
pub line_end : (i v : ℕ) (ns : List ℕ) → i + 1 ≡ length ns → v ≡ get_or ns i 0
    → line (drop i ns) ≡ decimal v ++ 10 ∷ []
unfolding text line
line_end i v ns h e =
    let none : length ns ≤ suc i = omega arith in
    rw (e, drop-cons ns i 0 (omega arith), drop_of_length-le ns none) refl

-- the n words of b from word k on, by their numbers
unfoldable words_from : List ℕ → ℕ → ℕ → List ℕ
words_from b k zero = []
words_from b k (suc n) = word64 b k ∷ words_from b (k + 1) n

-- words read one after the other are those of their numbers
words_from_lem : (n k : ℕ) (b : List ℕ) → words_in n (drop (8 * k) b) ≡ words_from b k n
unfolding words_in entries words_from word64 number_at
words_from_lem zero k b = refl
words_from_lem (suc n) k b =
    let place : 8 * k + 8 ≡ 8 * (k + 1) = omega arith in
    ap (λ ws. number 8 (drop (8 * k) b) ∷ ws)
    (ap (words_in n) (drop-drop 8 (8 * k) b ∙ ap (λ p. drop p b) place) ∙ words_from_lem n (k + 1) b)

-- the first n words of b are n
pub words_long : (n : ℕ) (b : List ℕ) → length (words_in n b) ≡ n
unfolding words_in entries
words_long zero b = refl
words_long (suc n) b = ap suc (words_long n (drop 8 b))

-- and each of them is the word at its place
pub word_of : (n i : ℕ) (b : List ℕ) → i < n → number_at 8 b (8 * i) ≡ get_or (words_in n b) i 0
unfolding words_in entries word64 number_at
word_of zero i b h = absurd (omega arith)
word_of (suc n) zero b h = refl
word_of (suc n) (suc i) b h =
    let place : 8 + 8 * i ≡ 8 * suc i = omega arith in
    ap (λ k. number 8 (drop k b)) (sym place) ∙ ap (number 8) (sym (drop-drop (8 * i) 8 b))
    ∙ word_of n i (drop 8 b) (omega arith)

-- the bytes of a row's line, by the words read one after the other
pub row_bytes : (interval id : ℕ) (b : List ℕ) → bytes_of_line (row_line interval id b)
    ≡ (decimal interval ++ 44 ∷ []) ++ ((decimal id ++ 44 ∷ []) ++ line (words_in 8 b))
unfolding words_in entries words_from bytes_of_line row_line text line
row_bytes interval id b = ap (λ ws. line (interval ∷ id ∷ ws)) (sym (words_from_lem 8 0 b))

-- and those of a pool line
pub pool_bytes : (interval : ℕ) (b : List ℕ) → bytes_of_line (pool_line interval b)
    ≡ text "pool," ++ ((decimal interval ++ 44 ∷ []) ++ line (words_in 4 b))
unfolding words_in entries words_from bytes_of_line pool_line text line
pool_bytes interval b = ap (λ ws. text "pool," ++ line (interval ∷ ws)) (sym (words_from_lem 4 0 b))

-- the bytes of one line
pub one_line : (l : Line) → bytes_of_line l ≡ bytes_of_lines (l ∷ [])
unfolding bytes_of_lines
one_line l = sym (append-nil (bytes_of_line l))

-- the bytes of lines and of lines after them
pub lines_append : (xs ys : List Line) → bytes_of_lines (xs ++ ys) ≡ bytes_of_lines xs ++ bytes_of_lines ys
unfolding bytes_of_lines
lines_append [] ys = refl
lines_append (x ∷ xs) ys = ap (λ b. bytes_of_line x ++ b) (lines_append xs ys)
    ∙ sym (append_assoc (bytes_of_line x) (bytes_of_lines xs) (bytes_of_lines ys))
