-- A table, entry by entry: what is left of it from an entry on.
use Prim.Native.Nat.{ℕ, zero, suc, ◌+◌, ◌-◌, ◌*◌, ◌≤◌, ◌<◌}
use mathlib.Core.Path.{◌≡◌, refl, sym, ap, ◌∙◌}
use mathlib.Core.Logic.{⊎_elim}
use mathlib.Core.List.Memᴰ
use mathlib.Core.List.{List, [], ◌∷◌, map, Memᴰ}
use mathlib.Core.Bool.{Bool, false}
use native.Mathlib.Nat.{sub-zero}
use native.Mathlib.Omega.{arith}
use lib.ListN.{length, drop, get_or}
use lib.Seq.{drop-drop}
use Rattle.words.specs.Lists.{any}
use Rattle.words.specs.Words.{entries}
use Rattle.words.proofs.Tests.{not_first, not_second}

-- entry i of a table, and so many after it
pub table_cons : {A : Type 0} (size : ℕ) (read : List ℕ → A) (n : ℕ) (b : List ℕ) (i : ℕ)
    → entries size read (suc n) (drop (size * i) b)
    ≡ read (drop (size * i) b) ∷ entries size read n (drop (size * (i + 1)) b)
unfolding entries
table_cons size read n b i =
    let next : size * i + size ≡ size * (i + 1) = omega arith in
    let rest = drop-drop size (size * i) b ∙ ap (λ k. drop k b) next in
    ap (λ rest. read (drop (size * i) b) ∷ entries size read n rest) rest

module _ {A : Type 0} (size : ℕ) (read : List ℕ → A) (n : ℕ) (b : List ℕ) where
  -- the entries from i on
  abbrev pub entries_from : ℕ → List A
  entries_from i = entries size read (n - i) (drop (size * i) b)

  -- before any entry is read, all of the table's entries are left
  pub table_start : entries size read n b ≡ entries_from 0
  table_start = let front : size * 0 ≡ 0 = omega arith in rw (sub-zero n, front)

  -- below the count, the entries from i on are entry i and those from i + 1 on
  pub table_turn : (i : ℕ) → i < n → entries_from i ≡ read (drop (size * i) b) ∷ entries_from (i + 1)
  table_turn i h =
      let more : n - i ≡ suc (n - (i + 1)) = omega arith in
      rw more (table_cons size read (n - (i + 1)) b i)

  -- from the count on, no entry is left
  pub table_end : (i : ℕ) → n ≤ i → entries_from i ≡ []
  unfolding entries
  table_end i h = let none : n - i ≡ 0 = omega arith in rw none

-- a table that begins at a byte offset
pub table_turn_at : {A : Type 0} (size : ℕ) (read : List ℕ → A) (n at : ℕ) (b : List ℕ) (i : ℕ) → i < n
    → entries_from size read n (drop at b) i
    ≡ read (drop (at + size * i) b) ∷ entries_from size read n (drop at b) (i + 1)
table_turn_at size read n at b i h =
    table_turn size read n (drop at b) i h
    ∙ ap (λ part. read part ∷ entries_from size read n (drop at b) (i + 1)) (drop-drop (size * i) at b)

-- where what is read passes no test wherever it stands, no entry of a table passes it
pub no_entry : {A : Type 0} (size : ℕ) (read : List ℕ → A) (p : A → Bool) → ((b : List ℕ) → p (read b) ≡ false)
    → (n : ℕ) (b : List ℕ) → any p (entries size read n b) ≡ false
unfolding any entries
no_entry size read p never zero b = refl
no_entry size read p never (suc n) b = rw (never b) (no_entry size read p never n (drop size b))

-- where no entry of a table passes a test, the one at i does not
pub none_entry : {A : Type 0} (size : ℕ) (read : List ℕ → A) (p : A → Bool) (n : ℕ) (b : List ℕ) (i : ℕ)
    → any p (entries size read n b) ≡ false → i < n → p (read (drop (size * i) b)) ≡ false
unfolding any entries
none_entry size read p zero b i e h = absurd (omega arith)
none_entry size read p (suc n) b zero e h =
    let front : size * 0 ≡ 0 = omega arith in
    rw front (not_first (p (read b)) (any p (entries size read n (drop size b))) e)
none_entry size read p (suc n) b (suc i) e h =
    let next : size + size * i ≡ size * suc i = omega arith in
    let later = not_second (p (read b)) (any p (entries size read n (drop size b))) e in
    ap (λ l. p (read l)) (sym (drop-drop (size * i) size b ∙ ap (λ k. drop k b) next))
    ∙ none_entry size read p n (drop size b) i later (omega arith)

-- where no member of a list passes a test, the one at k does not
pub none_place : {A : Type 0} (p : A → Bool) (d : A) (xs : List A) (k : ℕ) → any p xs ≡ false → k < length xs
    → p (get_or xs k d) ≡ false
unfolding any
none_place p d [] k e h = absurd (omega arith)
none_place p d (x ∷ xs) zero e h = not_first (p x) (any p xs) e
none_place p d (x ∷ xs) (suc k) e h = none_place p d xs k (not_second (p x) (any p xs) e) (omega arith)

-- where no member passes a test, and what fails it is mapped to what has a property, each mapped member has it
pub each_mapped : {A B : Type 0} (p : A → Bool) (g : A → B) (P : B → Type 0) → ((x : A) → p x ≡ false → P (g x))
    → (xs : List A) → any p xs ≡ false → (y : B) → Memᴰ y (map g xs) → P y
unfolding any
each_mapped p g P each [] e y m = absurd (Memᴰ.not-nil m)
each_mapped p g P each (x ∷ xs) e y m =
    ⊎_elim
    (λ q. rw q (each x (not_first (p x) (any p xs) e)))
    (each_mapped p g P each xs (not_second (p x) (any p xs) e) y)
    (Memᴰ.cases_cons m)
