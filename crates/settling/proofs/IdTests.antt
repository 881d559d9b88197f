-- What a walk of rows beside accounts says of ground 12.
use Prim.Native.Nat.{ℕ, ◌+◌, ◌-◌, ◌≤◌, ◌<◌}
use mathlib.Core.Path.{◌≡◌, refl, sym, ap, ◌∙◌}
use mathlib.Core.List.{List, map}
use mathlib.Core.Bool.{Bool, true, false, not, ◌||◌, ◌&&◌}
use lib.ListN.{length, drop}
use lib.Dec.{ltb, leb, eqb}
use native.Mathlib.Omega.{arith}
use borrow.Author.Tests.{lt-ltb, le-ltb, leb-true, leb-false}
use Rattle.words.specs.Lists.{any, rises}
use Rattle.words.proofs.Lists.{any_map}
use Rattle.reading.specs.Interval.{RowWords, Row, row_words_at, row_with, row_of, rows_of}
use Rattle.reading.specs.Values.{HeaderRead}
use Rattle.reading.specs.declared.header.Header.{Header as HeaderValue}
use Rattle.reading.proofs.RowsLeft.{rows_left, rows_start}
use Rattle.reading.proofs.Facts.{next_row, no_row}
use Rattle.ledger.specs.Ledger.{account_count, ledger_of, ids_in}
use Rattle.ledger.specs.Values.{before}
use Rattle.ledger.specs.Walk.{comparisons}
use Rattle.ledger.proofs.Accounts.{length_account_ids}
use Rattle.ledger.proofs.WalkLaws.{finds_all, unknown_is, finds_turn}
use Rattle.settling.specs.Settling.{ids_do_not_rise, id_unknown, row_ids_unknown}
use Rattle.settling.proofs.BudgetLaws.{Budget, budget_begins, row_spends}

-- the ids of rows
abbrev row_ids : List Row → List ℕ
row_ids rs = map (λ r. r.id) rs

-- whether a walk from account j of a ledger l on does not find the ids of all rows of a file f from i on
abbrev pub unknown_from : List ℕ → List ℕ → ℕ → ℕ → Bool
unknown_from l f i j = not (finds_all (row_ids (rows_left f i)) (drop j (ids_in (ledger_of l))))

-- where the ledger's ids rise, ground 12 says whether the walk from the first account on does not find all rows
pub unknown_start : (l f : List ℕ) → rises (ids_in (ledger_of l)) ≡ true
    → row_ids_unknown (ledger_of l) (rows_of f) ≡ unknown_from l f 0 0
unfolding row_ids_unknown ids_do_not_rise id_unknown
unknown_start l f up =
    let ids = ids_in (ledger_of l) in
    let among = any_map (λ id. not (any (λ x. eqb x id) ids)) (λ r. r.id) (rows_of f) in
    ap (λ t. not (rises (row_ids (rows_of f))) || t) (sym among)
    ∙ unknown_is (row_ids (rows_of f)) ids up
    ∙ ap (λ rs. not (finds_all (row_ids rs) ids)) (rows_start f)

-- rows are looked for, with row i next, before account j: what is left of a refusal, and of the budget
pub record Seeking (l f : List ℕ) (refused : Bool) (i j comparisons_left : ℕ) : Type 0 where
  pub within : j ≤ account_count l
  pub asks : refused ≡ unknown_from l f i j
  pub budget : Budget l f i j comparisons_left

-- before the first row, all of ground 12 is
pub seeking_starts : {l f : List ℕ} {h : HeaderValue} {accounts j budget : ℕ} → HeaderRead f h
    → rises (ids_in (ledger_of l)) ≡ true → accounts ≡ account_count l → j ≡ 0 → budget ≡ h.rows + accounts
    → Seeking l f (row_ids_unknown (ledger_of l) (rows_of f)) 0 j budget
seeking_starts {l} {f} read up count first e = record {
  within = omega arith;
  asks = unknown_start l f up ∙ ap (unknown_from l f 0) (sym first);
  budget = budget_begins read count first e;
}

module _ {l f : List ℕ} {h : HeaderValue} (read : HeaderRead f h) {refused : Bool} {i j budget : ℕ}
    (s : Seeking l f refused i j budget) where
  -- where no row is left, ground 12 does not refuse
  pub seeking_ends : h.rows ≤ i → refused ≡ false
  unfolding finds_all
  seeking_ends none =
      s.asks ∙ ap (λ rs. not (finds_all (row_ids rs) (drop j (ids_in (ledger_of l))))) (no_row read i none)

  -- row i, and the account at which the walk stops for its id
  module _ (row : i < h.rows) {w : RowWords} (is : w ≡ row_words_at f i) {k : ℕ}
      (at : k ≡ j + before w.id (drop j (ids_in (ledger_of l)))) where
    -- whether the walk finds the later rows behind that account
    abbrev later_found : Bool
    later_found = finds_all (row_ids (rows_left f (i + 1))) (drop (k + 1) (ids_in (ledger_of l)))

    -- ground 12 refuses just where no account is left there, or where a later row is not found behind it
    row_decides : refused ≡ not (ltb k (account_count l) && later_found)
    unfolding row_of row_with
    row_decides =
        let ids = ids_in (ledger_of l) in
        let later = row_ids (rows_left f (i + 1)) in
        s.asks
        ∙ ap (λ rs. not (finds_all (row_ids rs) (drop j ids))) (next_row read i row is)
        ∙ ap not (finds_turn w.id later ids j)
        ∙ ap (λ k. not (ltb k (length ids) && finds_all later (drop (k + 1) ids))) (sym at)
        ∙ ap (λ n. not (ltb k n && finds_all later (drop (k + 1) ids))) (length_account_ids l)

    -- whether that account is past the last of so many
    module _ {accounts : ℕ} (count : accounts ≡ account_count l) {ended : Bool} (asked : ended ≡ leb accounts k) where
      -- where it is, ground 12 refuses
      pub row_missed : ended ≡ true → refused ≡ true
      row_missed past =
          let none = leb-true accounts k (sym asked ∙ past) in
          row_decides ∙ ap (λ t. not (t && later_found)) (le-ltb k (account_count l) (omega arith))

      -- else it is one of them
      pub row_within : ended ≡ false → k < accounts
      row_within on = leb-false accounts k (sym asked ∙ on)

      -- and the later rows are looked for behind it
      pub row_found : {spent past rest : ℕ} → ended ≡ false
          → spent ≡ budget - comparisons w.id (drop j (ids_in (ledger_of l)))
          → past ≡ k + 1 → rest ≡ spent → Seeking l f refused (i + 1) past rest
      row_found {spent} {past} {rest} on take next same =
          let there = row_within on in
          record {
            within = omega arith;
            asks =
                row_decides ∙ ap (λ t. not (t && later_found)) (lt-ltb k (account_count l) (omega arith))
                ∙ ap (unknown_from l f (i + 1)) (sym next);
            budget = row_spends read s.budget row is refl at take next same;
          }
