-- The laws of bytes placed in a buffer: none, one, some behind others, a text, and words of any width.
use Prim.Native.Nat.{ℕ, suc, ◌+◌, ◌/◌, ◌%◌, ◌≤◌, ◌<◌}
use mathlib.Core.Path.{◌≡◌, refl, sym, ap, ap₂, ◌∙◌}
use mathlib.Core.List.{List, [], ◌∷◌, ◌++◌, append_assoc, append-nil}
use native.Mathlib.Numerals.{add-one}
use native.Mathlib.Nat.{add-zero}
use native.Mathlib.Omega.{arith}
use lib.ListN.{length, take, drop, get_or, set, length-append, take-append-drop, drop_of_length-le}
use lib.Seq.{length-take-le, take_at, drop_at, drop-drop, drop-cons, set_split, append_snoc}
use Rattle.words.specs.Words.{bytes_of, bytes_of_words, placed_at}
use Rattle.words.proofs.Words.{length_bytes_of}

-- no bytes placed change nothing
pub place_none : (at : ℕ) (b : List ℕ) → placed_at at [] b ≡ b
unfolding placed_at
place_none at b = rw (append-nil, add-zero) (take-append-drop at b)

-- a byte stored at a place is placed there
pub place_byte : (at v : ℕ) (b : List ℕ) → at < length b → set b at v ≡ placed_at at (v ∷ []) b
unfolding placed_at
place_byte at v b h = set_split b at v h ∙ sym (append_snoc (take at b) v (drop (suc at) b))
    ∙ ap (λ k. take at b ++ (v ∷ []) ++ drop k b) (sym (add-one at))

-- bytes placed behind bytes that have just been placed
pub place_more : (at : ℕ) (xs ys b : List ℕ) → at + length xs ≤ length b
    → placed_at (at + length xs) ys (placed_at at xs b) ≡ placed_at at (xs ++ ys) b
unfolding placed_at
place_more at xs ys b h =
    let end = at + length xs in
    let front : length (take at b ++ xs) ≡ end = omega (arith, length-append (take at b) xs, length-take-le at b (omega arith)) in
    let far : end + length ys ≡ at + length (xs ++ ys) = omega (arith, length-append xs ys) in
    ap₂ (λ p q. p ++ ys ++ q) (take_at (take at b ++ xs) (drop end b) end front)
    (sym (drop-drop (length ys) end (take at b ++ xs ++ drop end b))
    ∙ ap (drop (length ys)) (drop_at (take at b ++ xs) (drop end b) end front)
    ∙ drop-drop (length ys) end b
    ∙ ap (λ k. drop k b) far)
    ∙ ap (λ p. p ++ drop (at + length (xs ++ ys)) b) (append_assoc (take at b) xs ys)

-- what is left to place, once its first part is placed
pub place_rest : (at : ℕ) (xs ys b x goal : List ℕ) (m : ℕ) → at + length xs ≤ length b → x ≡ placed_at at xs b
    → m ≡ at + length xs
    → placed_at at (xs ++ ys) b ≡ goal → placed_at m ys x ≡ goal
place_rest at xs ys b x goal m h e p left = ap₂ (λ k l. placed_at k ys l) p e ∙ place_more at xs ys b h ∙ left

-- where nothing is left to place, all is placed
pub place_end : (at : ℕ) (rest b goal : List ℕ) → rest ≡ [] → placed_at at rest b ≡ goal → b ≡ goal
place_end at rest b goal none left = sym (place_none at b) ∙ ap (λ l. placed_at at l b) (sym none) ∙ left

-- one turn of writing a list, member by member: the bytes of those from the next on are left
pub place_turn : {A : Type 0} (write : List A → List ℕ) (one : A → List ℕ)
    → ((x : A) (xs : List A) → write (x ∷ xs) ≡ one x ++ write xs)
    → (at i next : ℕ) (xs : List A) (d : A) (b x goal : List ℕ) → placed_at at (write (drop i xs)) b ≡ goal
    → i < length xs → at + length (one (get_or xs i d)) ≤ length b
    → x ≡ placed_at at (one (get_or xs i d)) b → next ≡ at + length (one (get_or xs i d))
    → placed_at next (write (drop (i + 1) xs)) x ≡ goal
place_turn write one first at i next xs d b x goal left more room put behind =
    let here = ap write (drop-cons xs i d more) ∙ first (get_or xs i d) (drop (suc i) xs) in
    rw add-one (place_rest at (one (get_or xs i d)) (write (drop (suc i) xs)) b x goal next room put behind (ap (λ l. placed_at at l b) (sym here) ∙ left))

-- one turn of writing the bytes of a number: the lowest is put at its place, and those above it are left
pub bytes_turn : (at next left n v place low rest : ℕ) (b goal : List ℕ) → placed_at at (bytes_of left v) b ≡ goal
    → left ≡ suc n → next ≡ at + 1 → at < length b → place ≡ at → low ≡ v % 256 → rest ≡ v / 256
    → placed_at next (bytes_of n rest) (set b place low) ≡ goal
unfolding bytes_of
bytes_turn at next left n v place low rest b goal all more behind room there first above =
    rw (there, first, above)
    (place_rest at (v % 256 ∷ []) (bytes_of n (v / 256)) b (set b at (v % 256)) goal next (omega arith)
    (place_byte at (v % 256) b room) behind (ap (λ k. placed_at at (bytes_of k v) b) (sym more) ∙ all))

-- where all bytes are written, nothing is left
pub bytes_all : (at left v : ℕ) (b goal : List ℕ) → placed_at at (bytes_of left v) b ≡ goal → left ≡ 0 → b ≡ goal
unfolding bytes_of
bytes_all at left v b goal all none = place_end at (bytes_of left v) b goal (ap (λ k. bytes_of k v) none) all

-- one turn of writing words of n bytes, each put at its place
pub words_turn : (n at place i next : ℕ) (ws b x goal : List ℕ) → placed_at at (bytes_of_words n (drop i ws)) b ≡ goal
    → i < length ws → at + n ≤ length b
    → x ≡ placed_at place (bytes_of n (get_or ws i 0)) b → place ≡ at → next ≡ at + n
    → placed_at next (bytes_of_words n (drop (i + 1) ws)) x ≡ goal
unfolding bytes_of_words
words_turn n at place i next ws b x goal left more room put there behind =
    let long = length_bytes_of n (get_or ws i 0) in
    place_turn (bytes_of_words n) (bytes_of n) (λ w ws. refl) at i next ws 0 b x goal left more (omega (arith, long))
    (rw there at put) (omega (arith, long))

-- where all words are written, nothing is left
pub words_all : (n at i : ℕ) (ws b goal : List ℕ) → placed_at at (bytes_of_words n (drop i ws)) b ≡ goal → length ws ≤ i
    → b ≡ goal
unfolding bytes_of_words
words_all n at i ws b goal left h =
    place_end at (bytes_of_words n (drop i ws)) b goal (ap (bytes_of_words n) (drop_of_length-le ws h)) left
