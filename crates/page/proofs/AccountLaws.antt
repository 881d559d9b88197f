-- The laws of a plant's account: where a walk finds it, and what it holds.
use Prim.Native.Nat.{ℕ, suc, ◌+◌, ◌≤◌, ◌<◌}
use mathlib.Core.Path.{◌≡◌, refl, sym, ap, ◌∙◌, subst}
use mathlib.Core.List.{List, [], ◌∷◌, map, Memᴰ}
use mathlib.Core.Bool.{Bool, true, false, not, cond}
use native.Mathlib.Omega.{arith}
use lib.ListN.{length, drop, get_or}
use lib.Dec.{ltb, leb, eqb}
use borrow.Author.Tests.{leb-true, leb-false}
use Rattle.words.specs.Lists.{any}
use Rattle.words.proofs.Lists.{none_passes}
use Rattle.words.proofs.Tests.{not_leb}
use Rattle.reading.specs.Interval.{most_kilowatts}
use Rattle.assessment.specs.Assessment.{Account, empty_account, account_of}
use Rattle.ledger.specs.Ledger.{ledger_bytes, account_at, account_count, ledger_of, ids_in, account_outside}
use Rattle.ledger.specs.Values.{LedgerRead, before}
use Rattle.ledger.specs.Walk.{comparisons, pass_comparisons, BudgetSuffices}
use Rattle.ledger.specs.declared.layout.Standing.{Standing as StandingValue}
use Rattle.ledger.proofs.Sound.{account_in_lem}
use Rattle.ledger.proofs.Accounts.{length_accounts, length_account_ids, account_is}
use Rattle.ledger.proofs.WalkLaws.{budget_suffices, found_is, account_found}

-- the comparisons of one id with all are within the budget of one row and the accounts
one_row : (id : ℕ) (xs : List ℕ) → comparisons id xs ≤ 1 + length xs
unfolding BudgetSuffices pass_comparisons
one_row id xs = omega (arith, budget_suffices (id ∷ []) xs)

-- where a walk down the accounts passes the last, the account of an id is an empty one
account_missing : (id : ℕ) (accounts : List Account) → length accounts ≤ before id (map (λ a. a.id) accounts)
    → account_of id accounts ≡ empty_account id
unfolding before account_of
account_missing id [] h = refl
account_missing id (a ∷ rest) h = by (eqb a.id id) h (account_missing id rest)
  where
    by : (t : Bool) → suc (length rest) ≤ cond t 0 (suc (before id (map (λ a. a.id) rest)))
        → (length rest ≤ before id (map (λ a. a.id) rest) → account_of id rest ≡ empty_account id)
        → cond t a (account_of id rest) ≡ empty_account id
    by true h below = absurd (omega arith)
    by false h below = below (omega arith)

-- what holds of every account and of an empty one holds of the account of an id
account_has : (P : Account → Type 0) (id : ℕ) (accounts : List Account) → P (empty_account id)
    → ((a : Account) → Memᴰ a accounts → P a) → P (account_of id accounts)
unfolding account_of
account_has P id [] none each = none
account_has P id (a ∷ rest) none each =
    by (eqb a.id id) (account_has P id rest none (λ b m. each b (Memᴰ.tail m)))
  where
    by : (t : Bool) → P (account_of id rest) → P (cond t a (account_of id rest))
    by true below = each a (Memᴰ.head refl)
    by false below = below

-- a ledger that ground 6 does not refuse: the account of an id has at most the most kilowatts
pub largest_most : {b : List ℕ} {s : StandingValue} → LedgerRead b s → (id : ℕ)
    → (account_of id (ledger_of b).accounts).largest ≤ most_kilowatts
unfolding empty_account
largest_most {b} {s} read id =
    let t = (ledger_of b).terms in
    account_has (λ a. a.largest ≤ most_kilowatts) id (ledger_of b).accounts (omega arith)
    (λ a m. (account_in_lem t a (none_passes (account_outside t) m read.accounts)).largest)

-- the accounts of a ledger b, so many
module _ (b : List ℕ) {accounts : ℕ} (count : accounts ≡ account_count b) where
  -- from the first account on, the budget of one row and the accounts suffices for any id
  pub one_row_enough : (id : ℕ) {j budget : ℕ} → j ≡ 0 → budget ≡ 1 + accounts
      → comparisons id (drop j (ids_in (ledger_of b))) ≤ budget
  one_row_enough id {j} {budget} first all =
      subst (λ k. comparisons id (drop k (ids_in (ledger_of b))) ≤ budget) (sym first)
      (omega (arith, one_row id (ids_in (ledger_of b)), length_account_ids b))

  -- where a walk to an id has gone, and whether it has passed the last account
  module _ (id : ℕ) {account : ℕ} (at : account ≡ before id (ids_in (ledger_of b))) {ended : Bool}
      (asks : ended ≡ leb accounts account) where
    -- the ledger has an account of the id just where it has not
    pub has_is : not ended ≡ any (λ i. eqb i id) (ids_in (ledger_of b))
    has_is =
        ap not asks ∙ not_leb accounts account
        ∙ ap (λ k. ltb k accounts) at ∙ ap (ltb (before id (ids_in (ledger_of b)))) (count ∙ sym (length_account_ids b))
        ∙ sym (found_is id (ids_in (ledger_of b)))

    -- where it has, the account of the id is an empty one
    pub none_there : ended ≡ true → account_of id (ledger_of b).accounts ≡ empty_account id
    unfolding ids_in
    none_there past =
        let end = leb-true accounts account (sym asks ∙ past) in
        account_missing id (ledger_of b).accounts (omega (arith, end, length_accounts b))

    -- else an account stands there
    pub one_there : ended ≡ false → account < accounts
    one_there here = leb-false accounts account (sym asks ∙ here)

    -- and it is the account of the id
    pub found_there : (a : Account) → ended ≡ false → a ≡ account_at (drop (ledger_bytes account) b)
        → a ≡ account_of id (ledger_of b).accounts
    unfolding ids_in
    found_there a here is =
        let on = one_there here in
        let low : before id (ids_in (ledger_of b)) < length (ledger_of b).accounts = omega (arith, on, length_accounts b) in
        is ∙ sym (account_is b account a (omega (arith, on)))
        ∙ ap (λ k. get_or (ledger_of b).accounts k a) at
        ∙ sym (account_found id (ledger_of b).accounts a low)
