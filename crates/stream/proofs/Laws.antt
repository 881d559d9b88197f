-- The laws of streams: what comes next by the tests that are made,
-- and that a length and the bytes due after it are enough to read.
use Prim.Native.Nat.{ℕ, zero, suc, ◌+◌, ◌*◌, ◌≤◌, ◌<◌}
use mathlib.Core.Path.{◌≡◌, refl, sym, ap, ap₂, ◌∙◌}
use mathlib.Core.List.{List, [], ◌∷◌, ◌++◌}
use mathlib.Core.Bool.{Bool, true, false, cond}
use native.Mathlib.Omega.{arith}
use lib.ListN.{length, take, drop, length-append, length-drop, take-append-drop, drop_of_length-le}
use lib.Seq.{length-take-le, take_all, take-take, take-add, drop_at, drop-drop}
use lib.Dec.{ltb, eqb}
use borrow.Author.Tests.{lt-ltb, le-ltb, ltb-true, ltb-false, eq-eqb, ne_eqb}
use Rattle.words.specs.Words.{number, number_at}
use Rattle.stream.specs.Stream.{length_bytes, End, Next, next_block, bytes_due}
use Rattle.stream.specs.Steps.{Steps, step}

-- a number of the first n bytes depends on no byte after them
number_front : (n : ℕ) (a b : List ℕ) → n ≤ length a → number n (a ++ b) ≡ number n a
unfolding number
number_front zero a b h = refl
number_front (suc n) [] b h = absurd (omega arith)
number_front (suc n) (x ∷ a) b h = ap (λ k. x + 256 * k) (number_front n a b (omega arith))

-- a stream of no bytes has ended
pub next_ended : (most : ℕ) (s : List ℕ) → length s ≡ 0 → next_block most s ≡ Next.stop End.ended
unfolding next_block
next_ended most s e = rw (eq-eqb (length s) 0 e)

-- some bytes, but fewer than a length has, are a length that is cut
pub next_cut : (most : ℕ) (s : List ℕ) → (length s ≡ 0 → ⊥) → length s < length_bytes
    → next_block most s ≡ Next.stop End.cut
unfolding next_block
next_cut most s some h = rw (ne_eqb (length s) 0 some, lt-ltb (length s) length_bytes h)

-- the bytes due after a length that is cut: none
pub due_cut : (most : ℕ) (head : List ℕ) → length head < length_bytes → bytes_due most head ≡ 0
unfolding bytes_due
due_cut most head h = rw (lt-ltb (length head) length_bytes h)

-- the bytes due after a whole length of so many bytes
module _ (most : ℕ) (head : List ℕ) (whole : length_bytes ≤ length head) (n : ℕ)
    (w : n ≡ number_at length_bytes head 0) where
  -- go by the limit
  pub due_whole : bytes_due most head ≡ cond (ltb most n) 0 n
  unfolding bytes_due number_at
  due_whole = rw (le-ltb (length head) length_bytes whole, ← w)

  -- over it they are none
  pub due_over : most < n → bytes_due most head ≡ 0
  due_over h = due_whole ∙ rw (lt-ltb most n h)

  -- within it they are as many as the length says
  pub due_within : n ≤ most → bytes_due most head ≡ n
  due_within h = due_whole ∙ rw (le-ltb most n h)

-- what comes next after a whole length n, by the limit and by the bytes b after it
unfoldable pub following : ℕ → ℕ → List ℕ → Next
following most n b =
    cond (ltb most n) (Next.stop End.over_long)
    (cond (ltb (length b) n) (Next.stop End.cut)
    (Next.block (take n b) (drop n b)))

-- a whole length of so many bytes, and bytes b after it
module _ (most : ℕ) (head b : List ℕ) (whole : length head ≡ length_bytes) (n : ℕ)
    (w : n ≡ number_at length_bytes head 0) where
  -- the stream has them next
  pub next_following : next_block most (head ++ b) ≡ following most n b
  unfolding next_block following number_at
  next_following =
      let long = length-append head b in
      rw (
        ne_eqb (length (head ++ b)) 0 (λ e. omega arith),
        le-ltb (length (head ++ b)) length_bytes (omega arith),
        number_front length_bytes head b (omega arith) ∙ sym w,
        drop_at head b length_bytes whole,
      )

  -- a length over the limit is over-long
  pub next_over : most < n → next_block most (head ++ b) ≡ Next.stop End.over_long
  unfolding following
  next_over h = next_following ∙ rw (lt-ltb most n h)

  -- of a length within the limit, fewer bytes than it says are a block that is cut
  pub next_short : n ≤ most → length b < n → next_block most (head ++ b) ≡ Next.stop End.cut
  unfolding following
  next_short h k = next_following ∙ rw (le-ltb most n h, lt-ltb (length b) n k)

  -- as many are a block, with which the stream ends
  pub next_whole : n ≤ most → length b ≡ n → next_block most (head ++ b) ≡ Next.block b []
  unfolding following
  next_whole h k =
      next_following
      ∙ rw (le-ltb most n h, le-ltb (length b) n (omega arith))
      (ap₂ Next.block (take_all n b (omega arith)) (drop_of_length-le b {i = n} (omega arith)))

-- a step p on what follows a length n
module _ {A S : Type 0} (p : Steps A S) (number : ℕ) (state : S) (most n : ℕ) (b : List ℕ) where
  -- the bytes due are enough for it, by whether the length is over the limit and whether fewer bytes follow
  due_enough : (t u : Bool) → ltb most n ≡ t → ltb (length b) n ≡ u
      → step p number state (following most n (take (cond t 0 n) b)) ≡ step p number state (following most n b)
  unfolding step following
  due_enough true u e f = rw e refl
  due_enough false true e f =
      ap (λ k. step p number state (following most n k)) (take_all n b (omega (arith, ltb-true (length b) n f)))
  due_enough false false e f =
      let all : length (take n b) ≡ n = length-take-le n b (ltb-false (length b) n f) in
      rw (e, f, le-ltb (length (take n b)) n (omega arith)) (ap (p.block number state) (take-take n n b (omega arith)))

-- where a block comes next after a length n, the rest of the stream is what follows the bytes due
following_rest : (most n : ℕ) (b bytes rest : List ℕ) → following most n b ≡ Next.block bytes rest
    → rest ≡ drop (cond (ltb most n) 0 n) b
unfolding following
following_rest most n b bytes rest is = by (ltb most n) (ltb (length b) n) is
  where
    by : (t u : Bool) → cond t (Next.stop End.over_long) (cond u (Next.stop End.cut) (Next.block (take n b) (drop n b)))
        ≡ Next.block bytes rest
        → rest ≡ drop (cond t 0 n) b
    by true u q = let z : ◌≡◌ {A = ℕ} 0 1 = cc in absurd (omega arith)
    by false true q = let z : ◌≡◌ {A = ℕ} 0 1 = cc in absurd (omega arith)
    by false false q = cc

-- a stream s, of which a length and the bytes due after it are read
module _ (most : ℕ) (s : List ℕ) where
  -- how many bytes are read
  abbrev pub read_bytes : ℕ
  read_bytes = length_bytes + bytes_due most (take length_bytes s)

  -- the bytes of its length
  abbrev head : List ℕ
  head = take length_bytes s

  -- the bytes after it
  abbrev tail : List ℕ
  tail = drop length_bytes s

  -- where its length is whole
  module _ (h : length_bytes ≤ length s) where
    -- the number in it
    abbrev n : ℕ
    n = number_at length_bytes head 0

    -- the length has its bytes
    whole : length head ≡ length_bytes
    whole = length-take-le length_bytes s h

    -- what follows it comes next
    split : next_block most s ≡ following most n tail
    split = ap (next_block most) (sym (take-append-drop length_bytes s)) ∙ next_following most head tail whole n refl

    -- the bytes due
    due : bytes_due most head ≡ cond (ltb most n) 0 n
    due = due_whole most head (omega (arith, whole)) n refl

    -- what is read is the length and the bytes due
    front : take read_bytes s ≡ head ++ take (cond (ltb most n) 0 n) tail
    front = take-add length_bytes (bytes_due most head) s ∙ ap (λ k. head ++ take k tail) due

    -- it is enough for a step
    enough_whole : {A S : Type 0} (p : Steps A S) (number : ℕ) (state : S)
        → step p number state (next_block most (take read_bytes s)) ≡ step p number state (next_block most s)
    enough_whole p number state =
        ap (λ k. step p number state (next_block most k)) front
        ∙ ap (step p number state) (next_following most head (take (cond (ltb most n) 0 n) tail) whole n refl)
        ∙ due_enough p number state most n tail (ltb most n) (ltb (length tail) n) refl refl
        ∙ ap (step p number state) (sym split)

    -- what is left after it is the rest of the stream
    rest_whole : (bytes rest : List ℕ) → next_block most s ≡ Next.block bytes rest → rest ≡ drop read_bytes s
    rest_whole bytes rest is =
        following_rest most n tail bytes rest (sym split ∙ is)
        ∙ ap (λ k. drop k tail) (sym due)
        ∙ drop-drop (bytes_due most head) length_bytes s

  -- where its length is cut, no block comes next
  no_block : length s < length_bytes → (bytes rest : List ℕ) → next_block most s ≡ Next.block bytes rest → ⊥
  unfolding next_block
  no_block h bytes rest is = by (eqb (length s) 0) (rw (lt-ltb (length s) length_bytes h) at is)
    where
      by : (t : Bool) → cond t (Next.stop End.ended) (Next.stop End.cut) ≡ Next.block bytes rest → ⊥
      by true q = let z : ◌≡◌ {A = ℕ} 0 1 = cc in omega arith
      by false q = let z : ◌≡◌ {A = ℕ} 0 1 = cc in omega arith

  -- a length and the bytes due after it are enough for a step
  pub enough : {A S : Type 0} (p : Steps A S) (number : ℕ) (state : S)
      → step p number state (next_block most (take read_bytes s)) ≡ step p number state (next_block most s)
  enough p number state = by (ltb (length s) length_bytes) refl
    where
      by : (t : Bool) → ltb (length s) length_bytes ≡ t
          → step p number state (next_block most (take read_bytes s)) ≡ step p number state (next_block most s)
      by true e = ap (λ k. step p number state (next_block most k))
          (take_all read_bytes s (omega (arith, ltb-true (length s) length_bytes e)))
      by false e = enough_whole (ltb-false (length s) length_bytes e) p number state

  -- where a block comes next, what is left is the rest of the stream, and shorter
  pub rest_left : (bytes rest : List ℕ) → next_block most s ≡ Next.block bytes rest
      → (rest ≡ drop read_bytes s) × (length rest < length s)
  rest_left bytes rest is = by (ltb (length s) length_bytes) refl
    where
      by : (t : Bool) → ltb (length s) length_bytes ≡ t → (rest ≡ drop read_bytes s) × (length rest < length s)
      by true e = absurd (no_block (ltb-true (length s) length_bytes e) bytes rest is)
      by false e =
          let h = ltb-false (length s) length_bytes e in
          let same = rest_whole h bytes rest is in
          (same, omega (arith, ap length same, length-drop read_bytes s))
