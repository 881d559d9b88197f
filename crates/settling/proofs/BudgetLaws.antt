-- The budget of a pass over the rows of a file beside the accounts of a ledger.
use Prim.Native.Nat.{ℕ, ◌+◌, ◌-◌, ◌≤◌, ◌<◌}
use mathlib.Core.Path.{◌≡◌, sym, ap, ◌∙◌, subst}
use mathlib.Core.List.{List, ◌∷◌, map}
use native.Mathlib.Omega.{arith}
use lib.ListN.{drop, length-map}
use Rattle.reading.specs.Interval.{Row, RowWords, row_words_at, row_with, row_of, rows_of}
use Rattle.reading.specs.Values.{HeaderRead}
use Rattle.reading.specs.declared.header.Header.{Header as HeaderValue}
use Rattle.reading.proofs.RowsLeft.{rows_left, rows_start, length_rows}
use Rattle.reading.proofs.Facts.{row_count_lem, next_row}
use Rattle.ledger.specs.Ledger.{account_count, ledger_of, ids_in}
use Rattle.ledger.specs.Values.{before}
use Rattle.ledger.specs.Walk.{comparisons}
use Rattle.ledger.proofs.Accounts.{length_account_ids}
use Rattle.ledger.proofs.WalkLaws.{BudgetAt, budget_starts, budget_enough, budget_turn}

-- the ids of rows
abbrev row_ids : List Row → List ℕ
row_ids rs = map (λ r. r.id) rs

-- a pass over the rows of a file f beside the accounts of a ledger l: the comparisons left of its budget, with row i
-- next, before account j
pub record Budget (l f : List ℕ) (i j budget : ℕ) : Type 0 where
  pub left : BudgetAt (row_ids (rows_of f)) (ids_in (ledger_of l)) (row_ids (rows_left f i)) j budget

-- it begins with as many as there are rows and accounts together
pub budget_begins : {l f : List ℕ} {h : HeaderValue} {accounts budget j : ℕ} → HeaderRead f h
    → accounts ≡ account_count l → j ≡ 0 → budget ≡ h.rows + accounts → Budget l f 0 j budget
budget_begins {l} {f} {h} {accounts} {budget} {j} read count none e =
    let ids = ids_in (ledger_of l) in
    let rows = length-map (rows_of f) (λ r. r.id) ∙ length_rows f ∙ sym (row_count_lem read) in
    let all = budget_starts (row_ids (rows_of f)) ids budget (omega (arith, e, rows, count, length_account_ids l)) in
    let P : ℕ → List Row → Type 0 = λ j rs. BudgetAt (row_ids (rows_of f)) ids (row_ids rs) j budget in
    record { left = subst (λ j. P j (rows_left f 0)) (sym none) (subst (P 0) (rows_start f) all) }

-- row i, read as words w, and the ids from account j on
module _ {l f : List ℕ} {h : HeaderValue} (read : HeaderRead f h) {i j budget : ℕ} (at : Budget l f i j budget)
    (row : i < h.rows) {w : RowWords} (is : w ≡ row_words_at f i)
    {xs : List ℕ} (from : xs ≡ drop j (ids_in (ledger_of l))) where
  -- the budget, with the row's id the next
  next : BudgetAt (row_ids (rows_of f)) (ids_in (ledger_of l)) (w.id ∷ row_ids (rows_left f (i + 1))) j budget
  unfolding row_of row_with
  next =
      subst (λ rs. BudgetAt (row_ids (rows_of f)) (ids_in (ledger_of l)) (row_ids rs) j budget)
      (next_row read i row is) at.left

  -- what the row's id takes is left
  pub row_enough : comparisons w.id xs ≤ budget
  row_enough =
      subst (λ xs. comparisons w.id xs ≤ budget) (sym from)
      (budget_enough (row_ids (rows_of f)) (ids_in (ledger_of l)) w.id (row_ids (rows_left f (i + 1))) j budget next)

  -- and past the account found the rest is left for the rows after it
  pub row_spends : {k spent past rest : ℕ} → k ≡ j + before w.id xs → spent ≡ budget - comparisons w.id xs
      → past ≡ k + 1 → rest ≡ spent → Budget l f (i + 1) past rest
  row_spends {k} {spent} {past} {rest} place take on same =
      let turn =
      budget_turn (row_ids (rows_of f)) (ids_in (ledger_of l)) w.id (row_ids (rows_left f (i + 1))) j budget k spent
      next (place ∙ ap (λ xs. j + before w.id xs) from) (take ∙ ap (λ xs. budget - comparisons w.id xs) from) in
      let P : ℕ → ℕ → Type 0 =
      λ j budget. BudgetAt (row_ids (rows_of f)) (ids_in (ledger_of l)) (row_ids (rows_left f (i + 1))) j budget in
      record { left = subst (λ n. P n rest) (sym on) (subst (P (k + 1)) (sym same) turn) }
