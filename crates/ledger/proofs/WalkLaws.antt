-- Where a walk down rising ids finds each of some ids: the laws of the passes that walk rows and accounts side by side.
use Prim.Native.Nat.{ℕ, zero, suc, ◌+◌, ◌-◌, ◌≤◌, ◌<◌}
use mathlib.Core.Path.{◌≡◌, refl, sym, ap, ap₂, ◌∙◌}
use mathlib.Core.List.{List, [], ◌∷◌, map}
use mathlib.Core.Bool.{Bool, true, false, not, cond, ◌||◌, ◌&&◌, or-true}
use native.Mathlib.Omega.{arith}
use lib.ListN.{length, drop, get_or, length-drop, length-map}
use lib.Seq.{drop-drop, get_or-drop}
use lib.Dec.{ltb, eqb, leb-suc-suc}
use borrow.Author.Tests.{ltb-true, ltb-false, lt-ltb, le-ltb, eqb-true, eq-eqb, ne_eqb}
use Rattle.words.specs.Lists.{any, rises_above, rises}
use Rattle.words.proofs.Tests.{first_holds, second_holds}
use Rattle.words.proofs.Lists.{found_member, rises_next, rises_rest, member_above, not_among}
use Rattle.assessment.specs.Assessment.{Account, account_of}
use Rattle.ledger.specs.Ledger.{ledger_bytes, account_at, account_count, ledger_of, ids_in}
use Rattle.ledger.specs.Values.{before}
use Rattle.ledger.specs.Walk.{comparisons, pass_comparisons, BudgetSuffices}
use Rattle.ledger.proofs.Accounts.{ids_turn, ids_end}

-- whether a walk down xs finds each of some ids, each behind the one before it
unfoldable pub finds_all : List ℕ → List ℕ → Bool
finds_all [] xs = true
finds_all (id ∷ ids) xs = ltb (before id xs) (length xs) && finds_all ids (drop (suc (before id xs)) xs)

-- no more ids stand before the one looked for than there are
pub before_le : (id : ℕ) (xs : List ℕ) → before id xs ≤ length xs
unfolding before
before_le id [] = omega arith
before_le id (x ∷ xs) = by (eqb x id) (before_le id xs)
  where
    by : (t : Bool) → before id xs ≤ length xs → cond t 0 (suc (before id xs)) ≤ suc (length xs)
    by true below = omega arith
    by false below = omega arith

-- where it is found, it stands there
pub before_found : (id : ℕ) (xs : List ℕ) → before id xs < length xs → get_or xs (before id xs) 0 ≡ id
unfolding before
before_found id [] h = absurd (omega arith)
before_found id (x ∷ xs) h = by (eqb x id) refl h (before_found id xs)
  where
    by : (t : Bool) → eqb x id ≡ t → cond t 0 (suc (before id xs)) < suc (length xs)
        → (before id xs < length xs → get_or xs (before id xs) 0 ≡ id)
        → get_or (x ∷ xs) (cond t 0 (suc (before id xs))) 0 ≡ id
    by true e h below = eqb-true x id e
    by false e h below = below (omega arith)

-- and nowhere before
pub before_first : (id : ℕ) (xs : List ℕ) (k : ℕ) → k < before id xs → eqb (get_or xs k 0) id ≡ false
unfolding before
before_first id [] k h = absurd (omega arith)
before_first id (x ∷ xs) k h = by (eqb x id) refl k h (before_first id xs)
  where
    by : (t : Bool) → eqb x id ≡ t → (k : ℕ) → k < cond t 0 (suc (before id xs))
        → ((k : ℕ) → k < before id xs → eqb (get_or xs k 0) id ≡ false)
        → eqb (get_or (x ∷ xs) k 0) id ≡ false
    by true e k h below = absurd (omega arith)
    by false e zero h below = e
    by false e (suc k) h below = below k (omega arith)

-- a walk down the ids of a ledger b to an id, at account j
module _ (b : List ℕ) (id j : ℕ) where
  -- the ids from an account on
  abbrev ids_from : ℕ → List ℕ
  ids_from k = drop k (ids_in (ledger_of b))

  -- where no account is left, the id stands before none, and no comparison is made
  pub none_left : account_count b ≤ j → (before id (ids_from j) ≡ 0) × (comparisons id (ids_from j) ≡ 0)
  unfolding before comparisons
  none_left end = let none = ids_end b j end in (ap (before id) none, ap (comparisons id) none)

  module _ (on : j < account_count b) where
    -- the id of account j
    abbrev here : ℕ
    here = (account_at (drop (ledger_bytes j) b)).id

    -- one comparison is made at least
    pub one_at_least : 1 ≤ comparisons id (ids_from j)
    unfolding comparisons
    one_at_least = rw (ids_turn b j on) (omega arith)

    -- where the id is account j's, none stands before it, and one comparison finds it
    pub found_here : here ≡ id → (before id (ids_from j) ≡ 0) × (comparisons id (ids_from j) ≡ 1)
    unfolding before comparisons
    found_here e =
        let same = eq-eqb here id e in
        (ap (before id) (ids_turn b j on) ∙ rw same, ap (comparisons id) (ids_turn b j on) ∙ rw same)

    -- where it is another, the walk goes on from the next account, one comparison later
    pub passed_by : (here ≡ id → ⊥)
        → (j + before id (ids_from j) ≡ j + 1 + before id (ids_from (j + 1)))
        × (comparisons id (ids_from j) ≡ 1 + comparisons id (ids_from (j + 1)))
    unfolding before comparisons
    passed_by other =
        let differs = ne_eqb here id other in
        let passed : before id (ids_from j) ≡ suc (before id (ids_from (j + 1))) =
        ap (before id) (ids_turn b j on) ∙ rw differs in
        (omega (arith, passed), ap (comparisons id) (ids_turn b j on) ∙ rw differs (omega arith))

-- the comparisons that find an id, and the ids behind the one found, are no more than all of them
comparisons_le : (id : ℕ) (xs : List ℕ) → comparisons id xs + length (drop (suc (before id xs)) xs) ≤ length xs
unfolding comparisons before
comparisons_le id [] = omega arith
comparisons_le id (x ∷ xs) = by (eqb x id) (comparisons_le id xs)
  where
    by : (t : Bool) → comparisons id xs + length (drop (suc (before id xs)) xs) ≤ length xs
        → suc (cond t 0 (comparisons id xs)) + length (drop (suc (cond t 0 (suc (before id xs)))) (x ∷ xs))
        ≤ suc (length xs)
    by true below = omega arith
    by false below = omega arith

-- a pass makes no more comparisons than there are accounts
pub pass_le : (ids xs : List ℕ) → pass_comparisons ids xs ≤ length xs
unfolding pass_comparisons
pass_le [] xs = omega arith
pass_le (id ∷ ids) xs = omega (arith, comparisons_le id xs, pass_le ids (drop (suc (before id xs)) xs))

-- so a budget of as many as there are rows and accounts together is never used up before a pass ends
pub budget_suffices : BudgetSuffices
unfolding BudgetSuffices
budget_suffices rows accounts = omega (arith, pass_le rows accounts)

-- a pass over all ids beside xs: the comparisons left of the budget, where some of the ids are left,
-- and the accounts from j on
unfoldable pub BudgetAt : (all xs left : List ℕ) (j budget : ℕ) → Type 0
BudgetAt all xs left j budget =
    budget + pass_comparisons all xs ≡ length all + length xs + pass_comparisons left (drop j xs)

-- a pass begins with as many as there are ids and accounts together
pub budget_starts : (all xs : List ℕ) (budget : ℕ) → budget ≡ length all + length xs → BudgetAt all xs all 0 budget
unfolding BudgetAt
budget_starts all xs budget e = omega (arith, e)

-- what the next id takes is left of the budget, since the budget of the whole pass suffices
pub budget_enough : (all xs : List ℕ) (id : ℕ) (left : List ℕ) (j budget : ℕ) → BudgetAt all xs (id ∷ left) j budget
    → comparisons id (drop j xs) ≤ budget
unfolding BudgetAt pass_comparisons BudgetSuffices
budget_enough all xs id left j budget at = omega (arith, at, budget_suffices all xs)

-- and after it the rest of the budget is left for the others, from behind the account found on
pub budget_turn : (all xs : List ℕ) (id : ℕ) (left : List ℕ) (j budget k spent : ℕ)
    → BudgetAt all xs (id ∷ left) j budget
    → k ≡ j + before id (drop j xs) → spent ≡ budget - comparisons id (drop j xs) → BudgetAt all xs left (k + 1) spent
unfolding BudgetAt pass_comparisons
budget_turn all xs id left j budget k spent at place is =
    let next : j + suc (before id (drop j xs)) ≡ k + 1 = omega (arith, place) in
    let rest : pass_comparisons left (drop (suc (before id (drop j xs))) (drop j xs)) ≡ pass_comparisons left (drop (k + 1) xs)
    = ap (pass_comparisons left) (drop-drop (suc (before id (drop j xs))) j xs ∙ ap (λ n. drop n xs) next) in
    omega (arith, at, is, rest, budget_enough all xs id left j budget at)

-- an id is among others just where a walk down them finds it
pub found_is : (id : ℕ) (xs : List ℕ) → any (λ x. eqb x id) xs ≡ ltb (before id xs) (length xs)
unfolding any before
found_is id [] = refl
found_is id (x ∷ xs) = by (eqb x id) (found_is id xs)
  where
    by : (t : Bool) → any (λ x. eqb x id) xs ≡ ltb (before id xs) (length xs)
        → (t || any (λ x. eqb x id) xs) ≡ ltb (cond t 0 (suc (before id xs))) (suc (length xs))
    by true below = sym (lt-ltb 0 (suc (length xs)) (omega arith))
    by false below = below ∙ sym (leb-suc-suc (suc (before id xs)) (length xs))

-- where ids rise, those behind the one found rise from above it on
pub rest_rises : (id : ℕ) (xs : List ℕ) → rises xs ≡ true → before id xs < length xs
    → rises_above id (drop (suc (before id xs)) xs) ≡ true
unfolding before rises
rest_rises id [] up h = absurd (omega arith)
rest_rises id (x ∷ xs) up h = by (eqb x id) refl h (rest_rises id xs (rises_rest x xs up))
  where
    by : (t : Bool) → eqb x id ≡ t → cond t 0 (suc (before id xs)) < suc (length xs)
        → (before id xs < length xs → rises_above id (drop (suc (before id xs)) xs) ≡ true)
        → rises_above id (drop (suc (cond t 0 (suc (before id xs)))) (x ∷ xs)) ≡ true
    by true e h below = ap (λ k. rises_above k xs) (sym (eqb-true x id e)) ∙ up
    by false e h below = below (omega arith)

-- where ids rise, a larger id than the one found is among them just where it is among those behind that one
pub behind_found : (id later : ℕ) (xs : List ℕ) → rises xs ≡ true → before id xs < length xs → id < later
    → any (λ x. eqb x later) xs ≡ any (λ x. eqb x later) (drop (suc (before id xs)) xs)
unfolding before any rises
behind_found id later [] up h above = absurd (omega arith)
behind_found id later (x ∷ xs) up h above = by (eqb x id) refl h (behind_found id later xs (rises_rest x xs up))
  where
    by : (t : Bool) → eqb x id ≡ t → cond t 0 (suc (before id xs)) < suc (length xs)
        → (before id xs < length xs → id < later
        → any (λ x. eqb x later) xs ≡ any (λ x. eqb x later) (drop (suc (before id xs)) xs))
        → (eqb x later || any (λ x. eqb x later) xs)
        ≡ any (λ x. eqb x later) (drop (suc (cond t 0 (suc (before id xs)))) (x ∷ xs))
    by true e h below = rw (ne_eqb x later (λ q. omega (arith, eqb-true x id e)))
    by false e h below =
        let here : before id xs < length xs = omega arith in
        let low = member_above x (found_member id xs (found_is id xs ∙ lt-ltb (before id xs) (length xs) here)) up in
        rw (ne_eqb x later (λ q. omega (arith, low))) (below here above)

-- whether one of some ids is not among others
abbrev pub one_unknown : List ℕ → List ℕ → Bool
one_unknown ids xs = any (λ id. not (any (λ x. eqb x id) xs)) ids

-- of ids that rise from above the one found, those behind it tell as much as all
unknown_behind : (id last : ℕ) (ids xs : List ℕ) → rises xs ≡ true → before id xs < length xs → id ≤ last
    → rises_above last ids ≡ true
    → one_unknown ids xs ≡ one_unknown ids (drop (suc (before id xs)) xs)
unfolding any
unknown_behind id last [] xs up h low order = refl
unknown_behind id last (later ∷ ids) xs up h low order =
    let next = rises_next last later ids order in
    rw (
      behind_found id later xs up h (omega (arith, next.0)),
      unknown_behind id later ids xs up h (omega (arith, next.0)) next.1,
    )

-- where the first of some ids is found, what is said of the others and the ids behind it is said of all
unknown_step : (id : ℕ) (ids xs : List ℕ) → rises xs ≡ true
    → (rises_above id (drop (suc (before id xs)) xs) ≡ true
    → (not (rises_above id ids) || one_unknown ids (drop (suc (before id xs)) xs))
    ≡ not (finds_all ids (drop (suc (before id xs)) xs)))
    → (not (rises_above id ids) || one_unknown (id ∷ ids) xs) ≡ not (finds_all (id ∷ ids) xs)
unfolding any finds_all
unknown_step id ids xs up later =
    rw (found_is id xs) (by (ltb (before id xs) (length xs)) refl (rises_above id ids) refl)
  where
    rest : List ℕ
    rest = drop (suc (before id xs)) xs

    by : (t : Bool) → ltb (before id xs) (length xs) ≡ t → (u : Bool) → rises_above id ids ≡ u
        → (not u || (not t || one_unknown ids xs)) ≡ not (t && finds_all ids rest)
    by false p u q = or-true (not u)
    by true p true q =
        let found = ltb-true (before id xs) (length xs) p in
        unknown_behind id id ids xs up found (omega arith) q ∙ (rw q at (later (rest_rises id xs up found)))
    by true p false q = rw q at (later (rest_rises id xs up (ltb-true (before id xs) (length xs) p)))

-- the same of ids that rise from above a number on, as those do that are left
unknown_from_lem : (last : ℕ) (ids xs : List ℕ) → rises_above last xs ≡ true
    → (not (rises_above last ids) || one_unknown ids xs) ≡ not (finds_all ids xs)
unfolding any finds_all rises_above
unknown_from_lem last [] xs up = refl
unknown_from_lem last (id ∷ ids) xs up =
    by (ltb last id) refl
    (unknown_step id ids xs (rises_rest last xs up) (unknown_from_lem id ids (drop (suc (before id xs)) xs)))
  where
    by : (t : Bool) → ltb last id ≡ t
        → (not (rises_above id ids) || one_unknown (id ∷ ids) xs) ≡ not (finds_all (id ∷ ids) xs)
        → (not (t && rises_above id ids) || one_unknown (id ∷ ids) xs) ≡ not (finds_all (id ∷ ids) xs)
    by true e step = step
    by false e step = rw (sym (found_is id xs) ∙ not_among last id xs up (ltb-false last id e))

-- of ids to be found in rising ones: they do not rise, or one is not among them,
-- exactly where a walk does not find them all
pub unknown_is : (ids xs : List ℕ) → rises xs ≡ true
    → (not (rises ids) || any (λ id. not (any (λ x. eqb x id) xs)) ids) ≡ not (finds_all ids xs)
unfolding any finds_all rises
unknown_is [] xs up = refl
unknown_is (id ∷ ids) xs up = unknown_step id ids xs up (unknown_from_lem id ids (drop (suc (before id xs)) xs))

-- a walk from place j on finds an id and those after it just where the id stands before the end,
-- and those after it are found from the next place on
pub finds_turn : (id : ℕ) (ids xs : List ℕ) (j : ℕ) → let k = j + before id (drop j xs) in
    finds_all (id ∷ ids) (drop j xs) ≡ (ltb k (length xs) && finds_all ids (drop (k + 1) xs))
unfolding finds_all
finds_turn id ids xs j =
    let place = before id (drop j xs) in
    let next : j + suc place ≡ j + place + 1 = omega arith in
    ap₂ (λ t left. t && finds_all ids left) (within (ltb (j + place) (length xs)) refl)
    (drop-drop (suc place) j xs ∙ ap (λ k. drop k xs) next)
  where
    within : (t : Bool) → ltb (j + before id (drop j xs)) (length xs) ≡ t
        → ltb (before id (drop j xs)) (length (drop j xs)) ≡ t
    within true e =
        lt-ltb (before id (drop j xs)) (length (drop j xs))
        (omega (arith, ltb-true (j + before id (drop j xs)) (length xs) e, length-drop j xs))
    within false e =
        le-ltb (before id (drop j xs)) (length (drop j xs))
        (omega (arith, ltb-false (j + before id (drop j xs)) (length xs) e, length-drop j xs))

-- what is known where a walk from place j on finds an id and those after it:
-- the id stands at its place, and the others are found from the next on
pub record FoundFrom (j id : ℕ) (ids xs : List ℕ) : Type 0 where
  pub within : j + before id (drop j xs) < length xs
  pub there : get_or xs (j + before id (drop j xs)) 0 ≡ id
  pub later : finds_all ids (drop (j + before id (drop j xs) + 1) xs) ≡ true

-- what is known of the next of ids that a walk finds
pub finds_next : (id : ℕ) (ids xs : List ℕ) (j : ℕ) → finds_all (id ∷ ids) (drop j xs) ≡ true → FoundFrom j id ids xs
finds_next id ids xs j all =
    let k = j + before id (drop j xs) in
    let both = sym (finds_turn id ids xs j) ∙ all in
    let far = ltb-true k (length xs) (first_holds (ltb k (length xs)) (finds_all ids (drop (k + 1) xs)) both) in
    record {
      within = far;
      there =
          sym (get_or-drop j xs (before id (drop j xs)) 0)
          ∙ before_found id (drop j xs) (omega (arith, far, length-drop j xs));
      later = second_holds (ltb k (length xs)) (finds_all ids (drop (k + 1) xs)) both;
    }

-- where ids rise, one stands at one place only
pub place_only : (id : ℕ) (xs : List ℕ) (k : ℕ) → rises xs ≡ true → k < length xs → get_or xs k 0 ≡ id
    → before id xs ≡ k
unfolding before rises
place_only id [] k up h e = absurd (omega arith)
place_only id (x ∷ xs) zero up h e = rw (eq-eqb x id e)
place_only id (x ∷ xs) (suc k) up h e =
    let later = place_only id xs k (rises_rest x xs up) (omega arith) e in
    let found = found_is id xs ∙ lt-ltb (before id xs) (length xs) (omega arith) in
    rw (ne_eqb x id (λ q. omega (arith, member_above x (found_member id xs found) up))) (ap suc later)

-- where ids rise, an id found from place j on is the first of all, too
pub first_from : (id : ℕ) (xs : List ℕ) (j : ℕ) → rises xs ≡ true → j + before id (drop j xs) < length xs
    → before id xs ≡ j + before id (drop j xs)
first_from id xs j up h =
    place_only id xs (j + before id (drop j xs)) up h
    (sym (get_or-drop j xs (before id (drop j xs)) 0) ∙ before_found id (drop j xs) (omega (arith, length-drop j xs)))

-- the ids of accounts
abbrev ids_of : List Account → List ℕ
ids_of accounts = map (λ a. a.id) accounts

-- the account of an id is the one at the place where a walk down the accounts finds the id
pub account_found : (id : ℕ) (accounts : List Account) (d : Account) → before id (ids_of accounts) < length accounts
    → account_of id accounts ≡ get_or accounts (before id (ids_of accounts)) d
unfolding before account_of
account_found id [] d h = absurd (omega arith)
account_found id (a ∷ rest) d h = by (eqb a.id id) h (account_found id rest d)
  where
    by : (t : Bool) → cond t 0 (suc (before id (ids_of rest))) < suc (length rest)
        → (before id (ids_of rest) < length rest → account_of id rest ≡ get_or rest (before id (ids_of rest)) d)
        → cond t a (account_of id rest) ≡ get_or (a ∷ rest) (cond t 0 (suc (before id (ids_of rest)))) d
    by true h below = refl
    by false h below = below (omega arith)

-- where ids rise, it is the one at the place that a walk from j on finds
pub account_found_from : (id : ℕ) (accounts : List Account) (d : Account) (j : ℕ) → rises (ids_of accounts) ≡ true
    → let k = j + before id (drop j (ids_of accounts)) in
    k < length accounts → account_of id accounts ≡ get_or accounts k d
account_found_from id accounts d j up h =
    let n = length-map accounts (λ a. a.id) in
    let place = first_from id (ids_of accounts) j up (omega (arith, n)) in
    account_found id accounts d (omega (arith, place)) ∙ ap (λ k. get_or accounts k d) place
