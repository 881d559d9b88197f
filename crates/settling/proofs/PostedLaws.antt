-- What rows that a walk finds among accounts leave in these: each row changes its own account alone.
use Prim.Native.Nat.{ℕ, zero, suc, ◌≤◌, ◌<◌}
use mathlib.Core.Path.{◌≡◌, refl, ap, ap₂}
use mathlib.Core.List.{List, [], ◌∷◌, ◌++◌, map}
use mathlib.Core.Bool.{Bool, true, false, cond, ◌&&◌}
use native.Mathlib.Omega.{arith}
use borrow.Author.Tests.{lt-ltb, ltb-true, eqb-true, ne_eqb}
use lib.ListN.{length, take, drop, get_or}
use lib.Dec.{ltb, eqb}
use Rattle.words.specs.Lists.{rises_above, rises}
use Rattle.words.proofs.Lists.{rises_next, rises_rest}
use Rattle.words.proofs.Tests.{first_holds, second_holds}
use Rattle.assessment.specs.Assessment.{Account, raised, added, ChargedRow, Assessed, credit}
use Rattle.ledger.specs.Values.{before}
use Rattle.ledger.proofs.WalkLaws.{finds_all}
use Rattle.settling.specs.Settling.{posted, posted_all}
use Rattle.settling.proofs.Turns.{found_rise}

-- the ids of accounts
abbrev pub account_ids : List Account → List ℕ
account_ids = map (λ a. a.id)

-- the ids of charged rows
abbrev pub charged_ids : List ChargedRow → List ℕ
charged_ids = map (λ c. c.row.id)

-- what is left of numbers that rise rises
pub rises_drop : (i : ℕ) (xs : List ℕ) → rises xs ≡ true → rises (drop i xs) ≡ true
unfolding rises
rises_drop zero xs up = up
rises_drop (suc i) [] up = refl
rises_drop (suc i) (x ∷ xs) up = rises_drop i xs (rises_rest x xs up)

module _ (v : Assessed) where
  -- a row of another id leaves an account as it is
  not_posted : (c : ChargedRow) (a : Account) → eqb c.row.id a.id ≡ false → posted v c a ≡ a
  unfolding posted
  not_posted c a e = rw e

  -- and so do rows whose ids rise from the account's own on
  none_posted : (k : ℕ) (rows : List ChargedRow) (a : Account) → rises_above k (charged_ids rows) ≡ true → a.id ≤ k
      → posted_all v rows a ≡ a
  unfolding posted_all
  none_posted k [] a up h = refl
  none_posted k (c ∷ rows) a up h =
      let next = rises_next k c.row.id (charged_ids rows) up in
      let other = ne_eqb c.row.id a.id (λ q. omega (arith, next.0)) in
      rw (not_posted c a other) (none_posted c.row.id rows a next.1 (omega (arith, next.0)))

  -- posting a row keeps the account's id
  posted_id : (c : ChargedRow) (a : Account) → (posted v c a).id ≡ a.id
  unfolding posted raised added
  posted_id c a = by (eqb c.row.id a.id)
    where
      by : (t : Bool) → (cond t (added c.charge (credit v c) (raised c.row.committed a)) a).id ≡ a.id
      by true = refl
      by false = refl

  -- accounts whose ids rise from a row's on are not changed by that row
  skips : (k : ℕ) (c : ChargedRow) (rows : List ChargedRow) (accounts : List Account)
      → rises_above k (account_ids accounts) ≡ true → c.row.id ≤ k
      → map (posted_all v (c ∷ rows)) accounts ≡ map (posted_all v rows) accounts
  unfolding posted_all
  skips k c rows [] up h = refl
  skips k c rows (a ∷ accounts) up h =
      let next = rises_next k a.id (account_ids accounts) up in
      let other = ne_eqb c.row.id a.id (λ q. omega (arith, next.0)) in
      ap₂ ◌∷◌ (ap (posted_all v rows) (not_posted c a other))
      (skips a.id c rows accounts next.1 (omega (arith, next.0)))

  -- where no row is left, accounts stay as they are
  pub nothing_posted : (accounts : List Account) → map (posted_all v []) accounts ≡ accounts
  unfolding posted_all
  nothing_posted [] = refl
  nothing_posted (a ∷ accounts) = ap (λ rest. a ∷ rest) (nothing_posted accounts)

  -- the accounts before n as they are, that at n with a row posted, and those behind it with the rows behind that row
  abbrev posted_at : ℕ → ChargedRow → List ChargedRow → Account → List Account → List Account
  posted_at n c cs d accounts =
      take n accounts ++ (posted v c (get_or accounts n d) ∷ map (posted_all v cs) (drop (suc n) accounts))

  -- that is what rows leave that a walk finds among accounts whose ids rise, the first of them at n
  pub posted_turn : (c : ChargedRow) (cs : List ChargedRow) (d : Account) (accounts : List Account)
      → rises (account_ids accounts) ≡ true → finds_all (charged_ids (c ∷ cs)) (account_ids accounts) ≡ true
      → map (posted_all v (c ∷ cs)) accounts ≡ posted_at (before c.row.id (account_ids accounts)) c cs d accounts
  unfolding finds_all before posted_all rises
  posted_turn c cs d [] up e =
      absurd (omega (arith, ltb-true 0 0 (first_holds (ltb 0 0) (finds_all (charged_ids cs) []) e)))
  posted_turn c cs d (a ∷ rest) up e =
      by (eqb a.id id) refl e (posted_turn c cs d rest (rises_rest a.id ids up))
    where
      id : ℕ
      id = c.row.id

      ids : List ℕ
      ids = account_ids rest

      n : ℕ
      n = before id ids

      left : Bool
      left = finds_all (charged_ids cs) (drop (suc n) ids)

      by : (t : Bool) → eqb a.id id ≡ t
          → (let m = cond t 0 (suc n) in
          ltb m (suc (length ids)) && finds_all (charged_ids cs) (drop (suc m) (a.id ∷ ids))) ≡ true
          → ((ltb n (length ids) && left) ≡ true → map (posted_all v (c ∷ cs)) rest ≡ posted_at n c cs d rest)
          → map (posted_all v (c ∷ cs)) (a ∷ rest) ≡ posted_at (cond t 0 (suc n)) c cs d (a ∷ rest)
      by true own all later =
          let same = eqb-true a.id id own in
          let others = second_holds (ltb 0 (suc (length ids))) (finds_all (charged_ids cs) ids) all in
          let behind = found_rise a.id (charged_ids cs) ids up others in
          ap₂ ◌∷◌ (none_posted a.id cs (posted v c a) behind (omega (arith, posted_id c a)))
          (skips a.id c cs rest up (omega arith))
      by false other all later =
          let in_time = ltb (suc n) (suc (length ids)) in
          let early = ltb-true (suc n) (suc (length ids)) (first_holds in_time left all) in
          let here : n < length ids = omega arith in
          let found : (ltb n (length ids) && left) ≡ true
          = rw (lt-ltb n (length ids) here) (second_holds in_time left all) in
          let behind = found_rise a.id (id ∷ charged_ids cs) ids up found in
          ap₂ ◌∷◌ (none_posted a.id (c ∷ cs) a behind (omega arith)) (later found)
