-- A pass over the rows of a file beside the accounts of a ledger: what each turn knows of its row, and of the account
-- that the walk finds for it.
use Prim.Native.Nat.{ℕ, suc, ◌+◌, ◌≤◌, ◌<◌}
use mathlib.Core.Path.{◌≡◌, refl, sym, ap, ◌∙◌}
use mathlib.Core.List.{List, [], ◌∷◌, map}
use mathlib.Core.Bool.{Bool, true, not, ◌||◌}
use native.Mathlib.Omega.{arith}
use borrow.Author.Tests.{not-false, lt-ltb, ltb-true}
use lib.ListN.{length, drop, get_or}
use lib.Dec.{ltb, eqb}
use Rattle.words.specs.Lists.{any, rises_above, rises}
use Rattle.words.proofs.Lists.{any_map, rises_rest, found_member, member_above}
use Rattle.words.proofs.Tests.{first_holds, second_holds}
use Rattle.reading.specs.Interval.{Row, header_of, row_words_at, schedules_named, schedule_of, row_with, row_of, rows_of}
use Rattle.reading.specs.Values.{row_in}
use Rattle.reading.specs.declared.header.Header.{Header as HeaderValue}
use Rattle.reading.specs.declared.rows.Row.{Row as RowValue}
use Rattle.reading.proofs.Bounds.{RowIn}
use Rattle.reading.proofs.Facts.{row_count_lem}
use Rattle.reading.proofs.RowsLeft.{rows_left, rows_start, rows_turn}
use Rattle.reading.proofs.SoundRows.{sound, sound_in}
use Rattle.assessment.specs.Assessment.{empty_account, account_of}
use Rattle.ledger.specs.Ledger.{ledger_bytes, account_at, account_count, ledger_of, ids_in}
use Rattle.ledger.specs.Values.{before}
use Rattle.ledger.specs.declared.layout.Standing.{Standing as StandingValue}
use Rattle.ledger.proofs.Accounts.{length_accounts, length_account_ids, account_is, id_is}
use Rattle.ledger.proofs.Sound.{said, AccountIn, read_rises, read_account}
use Rattle.ledger.proofs.WalkLaws.{finds_all, found_is, rest_rises, unknown_is, finds_next, account_found_from}
use Rattle.settling.specs.Settling.{ids_do_not_rise, id_unknown, row_ids_unknown}
use Rattle.settling.specs.Values.{Passed}

-- ids that a walk finds among numbers that rise do so themselves
pub found_rise : (last : ℕ) (ids xs : List ℕ) → rises_above last xs ≡ true → finds_all ids xs ≡ true
    → rises_above last ids ≡ true
unfolding rises_above finds_all
found_rise last [] xs up e = refl
found_rise last (id ∷ ids) xs up e =
    let n = before id xs in
    let rest = drop (suc n) xs in
    let here = first_holds (ltb n (length xs)) (finds_all ids rest) e in
    let above = member_above last (found_member id xs (found_is id xs ∙ here)) up in
    let behind = rest_rises id xs (rises_rest last xs up) (ltb-true n (length xs) here) in
    rw (lt-ltb last id above) (found_rise id ids rest behind (second_holds (ltb n (length xs)) (finds_all ids rest) e))

-- the ids of the rows from i on
abbrev pub ids_left : List ℕ → ℕ → List ℕ
ids_left file i = map (λ r. r.id) (rows_left file i)

-- a walk with row i next stands before account j: it finds each row left among the accounts from j on
unfoldable pub Walks : List ℕ → List ℕ → ℕ → ℕ → Type 0
Walks ledger file i j = finds_all (ids_left file i) (drop j (ids_in (ledger_of ledger))) ≡ true

-- it finds row i at account k: the row's own account, behind which the other rows are found
pub record Found (ledger file : List ℕ) (i j k : ℕ) : Type 0 where
  pub place : k ≡ j + before (row_words_at file i).id (drop j (ids_in (ledger_of ledger)))
  pub within : k < account_count ledger
  pub id : (account_at (drop (ledger_bytes k) ledger)).id ≡ (row_words_at file i).id
  pub own : account_at (drop (ledger_bytes k) ledger) ≡ account_of (row_words_at file i).id (ledger_of ledger).accounts
  pub next : Walks ledger file (i + 1) (k + 1)

-- row i of a file
abbrev pub row_at : List ℕ → ℕ → Row
row_at file i = row_of file (row_words_at file i)

-- a ledger and a file that grounds 6 to 14 do not refuse
module _ {ledger file : List ℕ} {s : StandingValue} {h : HeaderValue} (p : Passed ledger s file h) where
  -- there are as many accounts as the ledger says
  pub accounts_are : s.accounts ≡ account_count ledger
  accounts_are = (said ledger s p.ledger_read.says).count

  -- each of them lies within the ledger
  pub account_lies : {k : ℕ} → k < account_count ledger → ledger_bytes (k + 1) ≤ length ledger
  unfolding ledger_bytes
  account_lies {k} on = omega (arith, accounts_are, p.ledger_read.room)

  -- before the first row, a walk stands before the first account
  pub walk_starts : Walks ledger file 0 0
  unfolding Walks row_ids_unknown ids_do_not_rise id_unknown
  walk_starts =
      let ids = ids_in (ledger_of ledger) in
      let row_ids = map (λ r. r.id) (rows_of file) in
      let unknown : ℕ → Bool = λ id. not (any (λ x. eqb x id) ids) in
      let by_ids = ap (λ t. not (rises row_ids) || t) (any_map unknown (λ r. r.id) (rows_of file)) in
      ap (λ rs. finds_all (map (λ r. r.id) rs) ids) (sym (rows_start file))
      ∙ not-false (finds_all row_ids ids) (sym (unknown_is row_ids ids (read_rises p.ledger_read)) ∙ by_ids ∙ p.known)

  -- row i is one of the file's
  module _ {i : ℕ} (taken : i < h.rows) where
    -- as the header counts them
    pub in_file : i < (header_of file).row_count
    in_file = omega (arith, row_count_lem p.tabled.read)

    -- it keeps its bounds
    pub row_within : RowIn (row_at file i)
    unfolding row_of
    row_within =
        let w = row_words_at file i in
        sound_in (sound p.scanned i in_file) (map (schedule_of file) (schedules_named file w))

    -- a walk finds it
    pub walk_finds : {j k : ℕ} (row : RowValue) {xs : List ℕ} → Walks ledger file i j → row_in row ≡ row_words_at file i
        → xs ≡ drop j (ids_in (ledger_of ledger)) → k ≡ j + before row.id xs → Found ledger file i j k
    unfolding Walks row_in ids_in row_of row_with
    walk_finds {j} {k} row {xs} walks read left place =
        let accounts = (ledger_of ledger).accounts in
        let ids = ids_in (ledger_of ledger) in
        let id = (row_words_at file i).id in
        let this = ap (λ rs. finds_all (map (λ r. r.id) rs) (drop j ids)) (sym (rows_turn file i in_file)) in
        let found = finds_next id (ids_left file (i + 1)) ids j (this ∙ walks) in
        let at : k ≡ j + before id (drop j ids) = place ∙ (λ x. j + before (read x).id (left x)) in
        let on : k < account_count ledger = omega (arith, found.within, length_account_ids ledger) in
        let none = empty_account 0 in
        let up = read_rises p.ledger_read in
        let own = account_found_from id accounts none j up (omega (arith, length_accounts ledger)) in
        record {
          place = at;
          within = on;
          id = sym (id_is ledger k on) ∙ ap (λ k. get_or ids k 0) at ∙ found.there;
          own = sym (account_is ledger k none on) ∙ ap (λ k. get_or accounts k none) at ∙ sym own;
          next = ap (λ k. finds_all (ids_left file (i + 1)) (drop (k + 1) ids)) at ∙ found.later;
        }

    -- and what it finds keeps the bounds of an account
    pub account_within : {j k : ℕ} → Found ledger file i j k
        → AccountIn (ledger_of ledger).terms (account_at (drop (ledger_bytes k) ledger))
    account_within {j} {k} found = read_account p.ledger_read k (omega (arith, found.within, accounts_are))
