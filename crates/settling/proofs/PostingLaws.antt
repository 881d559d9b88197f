-- What is left to credit and to post while rows are walked beside the accounts, and what a turn does to it.
use Prim.Native.Nat.{ℕ, suc, ◌+◌, ◌-◌, ◌*◌, ◌≤◌, ◌<◌, ◌^◌}
use mathlib.Core.Path.{◌≡◌, refl, sym, ap, ap₂, ◌∙◌, subst}
use mathlib.Core.List.{List, [], ◌∷◌, ◌++◌, map, map-map}
use native.Mathlib.Omega.{arith}
use borrow.Author.Tests.{eq-eqb}
use lib.ListN.{length, take, drop, get_or, length-drop}
use lib.Seq.{drop-drop, drop_at, take_all, get_or-drop, length-take-le}
use Rattle.std.proofs.lemmas.List.{drop-map}
use Rattle.words.specs.Lists.{sum, rises}
use Rattle.words.specs.Words.{Bytes, number, bytes_of, number_at, word64, bytes_of_words, written, written_at}
use Rattle.words.proofs.Lists.{sum_start, sum_turn, sum_end}
use Rattle.words.proofs.Words.{first_word}
use Rattle.words.proofs.Access.{write_more, write_none, length_written_at, beyond_kept}
use Rattle.reading.specs.Interval.{header_of, row_words_at, row_with, row_of}
use Rattle.reading.specs.Values.{row_in}
use Rattle.reading.specs.declared.header.Header.{Header as HeaderValue}
use Rattle.reading.specs.declared.rows.Row.{Row as RowValue}
use Rattle.reading.proofs.Facts.{row_count_lem}
use Rattle.reading.proofs.RowsLeft.{rows_left}
use Rattle.assessment.specs.Assessment.{
  most_cents,
  most_actual,
  Account,
  empty_account,
  raised,
  added,
  ChargedRow,
  charged_row,
  Assessed,
  total_bonus,
  pool,
  share,
  credit,
  credits,
}
use Rattle.assessment.specs.Values.{account_in}
use Rattle.assessment.specs.declared.account.Account.{Account as AccountValue}
use Rattle.assessment.proofs.Limits.{limit_le, most_charge_lem}
use Rattle.assessment.proofs.Shares.{credits_le}
use Rattle.ledger.specs.Ledger.{
  ledger_header_bytes,
  standing_of,
  ledger_bytes,
  account_at,
  account_count,
  ledger_of,
  account_words,
  ids_in,
}
use Rattle.ledger.specs.Values.{before}
use Rattle.ledger.specs.Walk.{comparisons}
use Rattle.ledger.specs.declared.layout.Standing.{Standing as StandingValue}
use Rattle.ledger.proofs.Accounts.{length_accounts, account_is, ids_behind, account_written}
use Rattle.ledger.proofs.Sound.{read_rises}
use Rattle.ledger.proofs.WalkLaws.{finds_all}
use Rattle.settling.specs.Settling.{result_header_bytes, result_bytes, rows_words, assessed_file, posted, posted_all}
use Rattle.settling.specs.Values.{Passed}
use Rattle.settling.proofs.Kept.{already_written, written_with, accounts_from, accounts_stand}
use Rattle.settling.proofs.BudgetLaws.{Budget, budget_begins, row_enough, row_spends}
use Rattle.settling.proofs.Turns.{
  Walks,
  Found,
  walk_starts,
  walk_finds,
  accounts_are,
  account_lies,
  in_file,
  row_within,
  account_within,
  row_at,
}
use Rattle.settling.proofs.SettledLaws.{
  Bounded,
  charged_of,
  charged_at,
  charged_left,
  charged_start,
  charged_turn,
  charged_end,
  terms_within,
  charged_bounded,
}
use Rattle.settling.proofs.PostedLaws.{account_ids, charged_ids, rises_drop, nothing_posted, posted_turn}

-- the words of rows, their credits not known
abbrev row_words : List ChargedRow → List ℕ
row_words = rows_words (λ c. 0)

-- the words of a row without its credit
abbrev seven_words : ChargedRow → List ℕ
seven_words c =
    let f = c.figures in
    f.expected ∷ f.actual ∷ f.outage ∷ f.economic ∷ f.shortfall ∷ f.bonus ∷ c.charge ∷ []

-- a result in which the words of rows stand from row i on, their credits not known
module _ (i : ℕ) (c : ChargedRow) (cs : List ChargedRow) (tail result : List ℕ)
    (stands : drop (result_bytes i) result ≡ bytes_of_words 8 (row_words (c ∷ cs)) ++ tail) where
  -- word 5 of the next row is its bonus
  bonus_stands : c.figures.bonus < 2 ^ 64 → word64 (drop (result_bytes i) result) 5 ≡ c.figures.bonus
  unfolding word64 number_at rows_words bytes_of_words bytes_of
  bonus_stands few =
      ap (λ b. number 8 (drop 40 b)) stands
      ∙ first_word 8 c.figures.bonus (c.charge ∷ 0 ∷ row_words cs) tail few

  -- and word 6 its charge
  charge_stands : c.charge < 2 ^ 64 → word64 (drop (result_bytes i) result) 6 ≡ c.charge
  unfolding word64 number_at rows_words bytes_of_words bytes_of
  charge_stands few = ap (λ b. number 8 (drop 48 b)) stands ∙ first_word 8 c.charge (0 ∷ row_words cs) tail few

  -- the row's credit written behind its seven words is all eight written
  credit_written : (cents : ℕ) → result_bytes (i + 1) ≤ length result
      → written_at (result_bytes i + 56) (cents ∷ []) result
      ≡ written_at (result_bytes i) (seven_words c ++ (cents ∷ [])) result
  unfolding rows_words bytes_of_words bytes_of result_bytes
  credit_written cents room =
      let rest = bytes_of_words 8 (0 ∷ row_words cs) ++ tail in
      written_with (result_bytes i) (seven_words c) result rest stands (cents ∷ []) (omega arith)

-- rows are credited, with row i next: from there on their words stand without credits, and writing them with credits
-- makes the result of all rows
pub record Crediting (ledger file result₀ result : List ℕ) (i : ℕ) : Type 0 where
  pub long : length result ≡ length result₀
  pub tail : List ℕ
  pub stands : drop (result_bytes i) result ≡ bytes_of_words 8 (row_words (charged_left ledger file i)) ++ tail
  pub left : let v = assessed_file ledger file in
      written_at (result_bytes i) (rows_words (credit v) (charged_left ledger file i)) result
      ≡ written_at result_header_bytes (rows_words (credit v) v.rows) result₀

-- a file and a ledger
module _ (ledger file : List ℕ) where
  -- the interval that the file makes of the ledger
  abbrev interval : Assessed
  interval = assessed_file ledger file

  -- the words of its rows with their credits
  abbrev credited_words : List ChargedRow → List ℕ
  credited_words = rows_words (credit interval)

  -- before the first row, all words stand without credits
  crediting_starts : (result : List ℕ) → result_header_bytes ≤ length result
      → result ≡ written_at result_header_bytes (row_words interval.rows) result → Crediting ledger file result result 0
  unfolding result_bytes written_at written
  crediting_starts result room same =
      let ws = row_words interval.rows in
      let start = charged_start ledger file in
      let tail = drop (8 * length ws) (drop result_header_bytes result) in
      let front = length-take-le result_header_bytes result room in
      record {
        long = refl;
        tail = tail;
        stands =
            ap (drop result_header_bytes) same
            ∙ drop_at (take result_header_bytes result) (bytes_of_words 8 ws ++ tail) result_header_bytes front
            ∙ ap (λ cs. bytes_of_words 8 (row_words cs) ++ tail) start;
        left = ap (λ cs. written_at result_header_bytes (credited_words cs) result) (sym start);
      }

  -- where no row is left, all are credited
  crediting_ends : {result₀ result : List ℕ} {i : ℕ} → Crediting ledger file result₀ result i
      → (header_of file).row_count ≤ i → result ≡ written_at result_header_bytes (credited_words interval.rows) result₀
  unfolding rows_words
  crediting_ends {result₀} {result} {i} c end =
      sym (write_none (result_bytes i) result)
      ∙ ap (λ cs. written_at (result_bytes i) (credited_words cs) result) (sym (charged_end ledger file i end))
      ∙ c.left

  -- row i is next
  module _ {result₀ result : List ℕ} {i : ℕ} (c : Crediting ledger file result₀ result i)
      (on : i < (header_of file).row_count) where
    -- the row, charged
    abbrev here : ChargedRow
    here = charged_at ledger file i

    -- the rows behind it
    abbrev later : List ChargedRow
    later = charged_left ledger file (i + 1)

    -- its words stand in front of the others
    row_stands : drop (result_bytes i) result ≡ bytes_of_words 8 (row_words (here ∷ later)) ++ c.tail
    row_stands = c.stands ∙ ap (λ cs. bytes_of_words 8 (row_words cs) ++ c.tail) (charged_turn ledger file i on)

    -- once its credit is written, the others are left
    crediting_turn : {after : List ℕ} {cents : ℕ} → result_bytes (i + 1) ≤ length result → cents ≡ credit interval here
        → after ≡ written_at (result_bytes i + 56) (cents ∷ []) result → Crediting ledger file result₀ after (i + 1)
    unfolding rows_words result_bytes bytes_of_words bytes_of
    crediting_turn {after} {cents} room credits put =
        let at = result_bytes i in
        let eight = credited_words (here ∷ []) in
        let next : result_bytes (i + 1) ≡ at + 8 * 8 = omega arith in
        let fits : at + 8 * 8 ≤ length result = omega arith in
        let all : after ≡ written_at at eight result
        = put
        ∙ credit_written i here later c.tail result row_stands cents room
        ∙ ap (λ cents. written_at at (seven_words here ++ (cents ∷ [])) result) credits in
        record {
          long = ap length all ∙ length_written_at at eight result fits ∙ c.long;
          tail = c.tail;
          stands =
              ap₂ drop next all
              ∙ beyond_kept at eight result fits
              ∙ sym (drop-drop 64 at result)
              ∙ ap (drop 64) row_stands;
          left =
              ap₂ (λ k r. written_at k (credited_words later) r) next all
              ∙ write_more at eight (credited_words later) result fits
              ∙ ap (λ cs. written_at at (credited_words cs) result) (sym (charged_turn ledger file i on))
              ∙ c.left;
        }

-- the words of accounts, one list behind the other
words_append : (xs ys : List Account) → account_words (xs ++ ys) ≡ account_words xs ++ account_words ys
unfolding account_words
words_append [] ys = refl
words_append (a ∷ xs) ys = ap (λ rest. a.id ∷ a.largest ∷ a.charged ∷ a.credited ∷ rest) (words_append xs ys)

-- four words an account
length_words : (xs : List Account) → length (account_words xs) ≡ 4 * length xs
unfolding account_words
length_words [] = refl
length_words (a ∷ xs) = omega (arith, length_words xs)

-- bytes that are as they were from a place on are so from a later place on
behind_more : (at to : ℕ) (a b : List ℕ) → at ≤ to → drop at a ≡ drop at b → drop to a ≡ drop to b
behind_more at to a b h e =
    let more = to - at in
    let far : at + more ≡ to = omega arith in
    ap (λ k. drop k a) (sym far)
    ∙ sym (drop-drop more at a)
    ∙ ap (drop more) e
    ∙ drop-drop more at b
    ∙ ap (λ k. drop k b) far

-- rows are posted to the accounts of a ledger b, with row i and account j next: from there on the bytes are as they
-- were, and posting the rows left makes the ledger with all posted
pub record Posting (b file ledger : List ℕ) (i j : ℕ) : Type 0 where
  pub bytes : length ledger ≡ length b
  pub standing : standing_of ledger ≡ standing_of b
  pub behind : drop (ledger_bytes j) ledger ≡ drop (ledger_bytes j) b
  pub left : let v = assessed_file b file in
      let accounts = (ledger_of b).accounts in
      written_at (ledger_bytes j) (account_words (map (posted_all v (charged_left b file i)) (drop j accounts))) ledger
      ≡ written_at ledger_header_bytes (account_words (map (posted_all v v.rows) accounts)) b

-- before the first row, all is left
posting_starts : (b file : List ℕ) → Posting b file b 0 0
unfolding ledger_bytes
posting_starts b file =
    let words : List ChargedRow → List ℕ
    = λ cs. account_words (map (posted_all (assessed_file b file) cs) (ledger_of b).accounts) in
    record {
      bytes = refl;
      standing = refl;
      behind = refl;
      left = ap (λ cs. written_at ledger_header_bytes (words cs) b) (sym (charged_start b file));
    }

-- a ledger b and a file that grounds 6 to 14 do not refuse
module _ {b file : List ℕ} {s : StandingValue} {h : HeaderValue} (p : Passed b s file h) (bytes : Bytes b) where
  -- the interval that the file makes of the ledger
  abbrev v : Assessed
  v = assessed_file b file

  -- the ledger's accounts
  abbrev accounts : List Account
  accounts = (ledger_of b).accounts

  -- some rows are posted
  module _ {ledger : List ℕ} {i j : ℕ} (posting : Posting b file ledger i j) where
    -- the ledger has as many accounts
    pub count_kept : account_count ledger ≡ account_count b
    unfolding account_count
    count_kept = ap (λ s. s.account_count) posting.standing

    -- and the same ids from account j on
    pub ids_kept : drop j (ids_in (ledger_of ledger)) ≡ drop j (ids_in (ledger_of b))
    ids_kept = ids_behind b ledger j count_kept posting.behind

    -- the accounts from j on
    abbrev rest : List Account
    rest = drop j accounts

    -- n of them stand in it
    accounts_there : (n : ℕ) → j + n ≤ account_count b
        → drop (ledger_bytes j) ledger ≡ bytes_of_words 8 (accounts_from b n j) ++ drop (ledger_bytes (j + n)) b
    accounts_there n few =
        posting.behind ∙ accounts_stand b n j bytes few (rw (← accounts_are p) p.ledger_read.room)

    -- where no row is left, all are posted
    posting_ends : (header_of file).row_count ≤ i → j ≤ account_count b
        → ledger ≡ written_at ledger_header_bytes (account_words (map (posted_all v v.rows) accounts)) b
    posting_ends end few =
        let n = account_count b - j in
        let at = ledger_bytes j in
        let whole : take n rest ≡ rest = take_all n rest (omega (arith, length-drop j accounts, length_accounts b)) in
        let there = accounts_there n (omega arith) in
        let words : List ChargedRow → List ℕ = λ cs. account_words (map (posted_all v cs) rest) in
        sym (already_written at (accounts_from b n j) ledger (drop (ledger_bytes (j + n)) b) there)
        ∙ ap (λ l. written_at at (account_words l) ledger) (whole ∙ sym (nothing_posted v rest))
        ∙ ap (λ cs. written_at at (words cs) ledger) (sym (charged_end b file i end))
        ∙ posting.left

    -- the walk finds row i at account k
    module _ {k : ℕ} (on : i < (header_of file).row_count) (walks : Walks b file i j) (found : Found b file i j k) where
      -- the row, charged
      abbrev this : ChargedRow
      this = charged_at b file i

      -- the rows behind it
      abbrev others : List ChargedRow
      others = charged_left b file (i + 1)

      -- the account that is read there is as it was
      account_kept : account_at (drop (ledger_bytes k) ledger) ≡ account_at (drop (ledger_bytes k) b)
      unfolding ledger_bytes
      account_kept =
          let low : ledger_bytes j ≤ ledger_bytes k = omega (arith, found.place) in
          ap account_at (behind_more (ledger_bytes j) (ledger_bytes k) ledger b low posting.behind)

      -- so many accounts are passed by
      abbrev passed : ℕ
      passed = before (row_words_at file i).id (account_ids rest)

      -- the ids of the accounts from j on
      ids_from : drop j (ids_in (ledger_of b)) ≡ account_ids rest
      unfolding ids_in
      ids_from = drop-map (λ a. a.id) j accounts

      -- the row's account stands behind those passed by
      place_is : k ≡ j + passed
      place_is = found.place ∙ ap (λ xs. j + before (row_words_at file i).id xs) ids_from

      -- with the rows left posted, accounts passed by are as they were, the row's own has the row posted, and those
      -- behind it the other rows
      rest_turn : map (posted_all v (charged_left b file i)) rest
          ≡ take passed rest
          ++ (posted v this (account_at (drop (ledger_bytes k) b)) ∷ map (posted_all v others) (drop (k + 1) accounts))
      unfolding Walks charged_of charged_row row_of row_with
      rest_turn =
          let none = empty_account 0 in
          let turn = charged_turn b file i on in
          let ids = ap charged_ids (sym turn) ∙ map-map (λ c. c.row.id) (charged_of b file) (rows_left file i) in
          let up = sym (ap rises ids_from) ∙ rises_drop j (ids_in (ledger_of b)) (read_rises p.ledger_read) in
          let mine : get_or rest passed none ≡ account_at (drop (ledger_bytes k) b)
          = get_or-drop j accounts passed none
          ∙ ap (λ k. get_or accounts k none) (sym place_is)
          ∙ account_is b k none found.within in
          let next : j + suc passed ≡ k + 1 = omega (arith, place_is) in
          let behind = drop-drop (suc passed) j accounts ∙ ap (λ k. drop k accounts) next in
          ap (λ cs. map (posted_all v cs) rest) turn
          ∙ posted_turn v this others none rest up (ap₂ finds_all ids (sym ids_from) ∙ walks)
          ∙ ap₂ (λ a more. take passed rest ++ (posted v this a ∷ map (posted_all v others) more)) mine behind

      -- once the row is posted to it, the rows from i + 1 on are left for the accounts behind it
      posting_turn : {after : List ℕ} (a : Account) → a ≡ posted v this (account_at (drop (ledger_bytes k) b))
          → after ≡ written_at (ledger_bytes k) (account_words (a ∷ [])) ledger → Posting b file after (i + 1) (k + 1)
      unfolding ledger_bytes account_words
      posting_turn {after} a posts put =
          let at = ledger_bytes j in
          let ws = accounts_from b passed j in
          let four = account_words (a ∷ []) in
          let own = account_at (drop (ledger_bytes k) b) in
          let more = map (posted_all v others) (drop (k + 1) accounts) in
          let room : ledger_bytes k + 8 * 4 ≤ length ledger
          = omega (arith, account_lies p found.within, posting.bytes) in
          let kept = account_written k a ledger after (omega arith) put in
          let next : ledger_bytes (k + 1) ≡ ledger_bytes k + 8 * 4 = omega arith in
          let few : passed ≤ length rest
          = omega (arith, place_is, found.within, length-drop j accounts, length_accounts b) in
          let size : length ws ≡ 4 * passed
          = length_words (take passed rest) ∙ ap (λ n. 4 * n) (length-take-le passed rest few) in
          let place : ledger_bytes k ≡ at + 8 * length ws = omega (arith, place_is, size) in
          let words : account_words (map (posted_all v (charged_left b file i)) rest) ≡ ws ++ (four ++ account_words more)
          = ap account_words rest_turn
          ∙ words_append (take passed rest) (posted v this own ∷ more)
          ∙ ap (λ a. ws ++ account_words (a ∷ more)) (sym posts) in
          let there = accounts_there passed (omega (arith, place_is, found.within)) in
          let tail = drop (ledger_bytes (j + passed)) b in
          let new = four ++ account_words more in
          record {
            bytes = kept.bytes ∙ posting.bytes;
            standing = kept.standing ∙ posting.standing;
            behind =
                kept.behind
                ∙ behind_more at (ledger_bytes (k + 1)) ledger b (omega (arith, found.place)) posting.behind;
            left =
                ap₂ (λ at l. written_at at (account_words more) l) next put
                ∙ write_more (ledger_bytes k) four (account_words more) ledger room
                ∙ ap (λ at. written_at at new ledger) place
                ∙ written_with at ws ledger tail there new (omega (arith, room, place))
                ∙ ap (λ ws. written_at at ws ledger) (sym words)
                ∙ posting.left;
          }

-- a pass that posts rows to a ledger b, with row i and account j next, and what is left of its budget
pub record Pass (b file result₀ ledger result : List ℕ) (cents i j comparisons_left : ℕ) : Type 0 where
  pub bytes : Bytes b
  pub within : j ≤ account_count b
  pub walks : Walks b file i j
  pub posting : Posting b file ledger i j
  pub crediting : Crediting b file result₀ result i
  pub credits : cents + sum (credit (assessed_file b file)) (charged_left b file i) ≡ credits (assessed_file b file)
  pub budget : Budget b file i j comparisons_left

-- a ledger b and a file that grounds 6 to 14 do not refuse
module _ {b file : List ℕ} {s : StandingValue} {h : HeaderValue} (p : Passed b s file h) where
  -- the interval that the file makes of the ledger
  abbrev x : Assessed
  x = assessed_file b file

  -- row i is posted
  module _ {i : ℕ} (taken : i < h.rows) where
    -- the row, charged
    abbrev one : ChargedRow
    one = charged_at b file i

    -- the rows behind it
    abbrev more : List ChargedRow
    more = charged_left b file (i + 1)

    -- its figures and its charge keep their bounds
    one_bounded : Bounded one
    one_bounded = charged_bounded p (row_at file i) (row_within p taken)

    -- its words stand in the result
    module _ {result₀ result : List ℕ} (crediting : Crediting b file result₀ result i) where
      one_stands : drop (result_bytes i) result ≡ bytes_of_words 8 (row_words (one ∷ more)) ++ crediting.tail
      one_stands = row_stands b file crediting (in_file p taken)

      -- the bonus that is read there is its own
      pub bonus_read : {kw : ℕ} → kw ≡ word64 (drop (result_bytes i) result) 5
          → (kw ≡ one.figures.bonus) × (kw ≤ most_actual)
      bonus_read read =
          let most = one_bounded.figures.bonus in
          let own = bonus_stands i one more crediting.tail result one_stands (omega (arith, most)) in
          (read ∙ own, omega (arith, read, own, most))

      -- and so is the charge
      pub charge_read : {charge : ℕ} → charge ≡ word64 (drop (result_bytes i) result) 6 → charge ≡ one.charge
      charge_read read =
          let fits : one.charge < 2 ^ 64 = omega (arith, one_bounded.charge, most_charge_lem) in
          read ∙ charge_stands i one more crediting.tail result one_stands fits

    -- the share of its bonus is its credit
    pub credit_is : {given cash total kw : ℕ} → cash ≡ pool x → total ≡ total_bonus x → kw ≡ one.figures.bonus
        → given ≡ share cash total kw → given ≡ credit x one
    unfolding credit
    credit_is cash_is total_is kw_is given_is = given_is ∙ (λ k. share (cash_is k) (total_is k) (kw_is k))

    -- its credit and those of the rows behind it are left to add to a sum
    module _ (cents : ℕ) (left : cents + sum (credit x) (charged_left b file i) ≡ credits x) {given : ℕ}
        (credited : given ≡ credit x one) where
      credits_next : cents + given + sum (credit x) more ≡ credits x
      credits_next =
          let turn = charged_turn b file i (in_file p taken) in
          sum_turn (credit x) cents (credits x) given turn left credited

      -- so the sum with it is at most the most cents, of a pool that ground 16 does not refuse
      pub credits_most : pool x ≤ most_cents → cents + given ≤ most_cents
      credits_most small = omega (arith, credits_next, credits_le x, small)

    -- the walk finds its account, k
    module _ {j k : ℕ} (found : Found b file i j k) where
      -- the account as it was before the interval
      abbrev own : Account
      own = account_at (drop (ledger_bytes k) b)

      -- raised, and with charge and credit added, it is as the row leaves it
      posted_own : posted x one own ≡ added one.charge (credit x one) (raised (row_at file i).committed own)
      unfolding posted charged_of charged_row row_of row_with
      posted_own = rw (eq-eqb (row_words_at file i).id own.id (sym found.id))

      -- in a ledger to which the rows before it are posted, it is read as a, and raised as r
      module _ {ledger : List ℕ} (bytes : Bytes b) (posting : Posting b file ledger i j) (walks : Walks b file i j)
          (row : RowValue) (read : row_in row ≡ row_words_at file i) (a r : AccountValue)
          (account : account_in a ≡ account_at (drop (ledger_bytes k) ledger))
          (raise : account_in r ≡ raised row.committed (account_in a)) where
        -- r is the account as it was, raised
        as_raised : account_in r ≡ raised (row_at file i).committed own
        unfolding row_in row_of row_with
        as_raised =
            let same = account ∙ account_kept p bytes posting (in_file p taken) walks found in
            raise ∙ (λ k. raised (read k).committed (same k))

        -- the charge added to its sum fits
        charge_fits : {charge : ℕ} → charge ≡ one.charge → r.charged.0 + charge < 2 ^ 64
        unfolding account_in raised
        charge_fits charged =
            let within = account_within p taken found in
            let limit = limit_le (ledger_of b).terms own.largest (terms_within p) within.largest in
            let sums = ap (λ a. a.charged) as_raised in
            omega (arith, sums, within.charged, limit, charged, one_bounded.charge, most_charge_lem)

        -- and so does the credit, of a pool that ground 16 does not refuse
        module _ (small : pool x ≤ most_cents) (cents : ℕ)
            (left : cents + sum (credit x) (charged_left b file i) ≡ credits x) {given : ℕ}
            (credited : given ≡ credit x one) where
          credit_fits : r.credited.0 + given < 2 ^ 64
          unfolding account_in raised
          credit_fits =
              let within = account_within p taken found in
              omega (arith, ap (λ a. a.credited) as_raised, within.credited, credits_most cents left credited small)

          -- so both do
          pub account_fits : {charge : ℕ} → charge ≡ one.charge
              → (r.charged.0 + charge < 2 ^ 64) × (r.credited.0 + given < 2 ^ 64)
          account_fits charged = (charge_fits charged, credit_fits)

  -- the pass begins with all rows, where their words stand without credits
  pub pass_starts : {result : List ℕ} {j budget : ℕ} → Bytes b → result_bytes h.rows ≤ length result
      → result ≡ written_at result_header_bytes (row_words x.rows) result
      → j ≡ 0 → budget ≡ h.rows + s.accounts → Pass b file result b result 0 0 j budget
  unfolding result_bytes credits
  pass_starts {result} {j} {budget} bytes room same first all =
      let P : ℕ → Type 0 = λ j. Pass b file result b result 0 0 j budget in
      subst P (sym first) (record {
        bytes = bytes;
        within = omega arith;
        walks = walk_starts p;
        posting = posting_starts b file;
        crediting = crediting_starts b file result (omega arith) same;
        credits = sum_start (credit x) (charged_start b file);
        budget = budget_begins p.tabled.read (accounts_are p) refl all;
      })

  module _ {result₀ ledger result : List ℕ} {cents i j budget : ℕ}
      (pass : Pass b file result₀ ledger result cents i j budget) where
    -- the ledger is as long as it was
    pub ledger_long : length ledger ≡ length b
    ledger_long = pass.posting.bytes

    -- and so is the result
    pub result_long : length result ≡ length result₀
    result_long = pass.crediting.long

    -- as many accounts stand in the ledger as before
    pub accounts_kept : s.accounts ≡ account_count ledger
    accounts_kept = accounts_are p ∙ sym (count_kept p pass.bytes pass.posting)

    -- the pass stands at one of them, or behind the last
    pub next_within : j ≤ s.accounts
    next_within = omega (arith, pass.within, accounts_are p)

    -- and each lies within it
    pub accounts_lie : ledger_bytes s.accounts ≤ length ledger
    accounts_lie = omega (arith, p.ledger_read.room, ledger_long)

    -- where no row is left, all is posted and credited
    pub pass_ends : h.rows ≤ i
        → (cents ≡ credits x)
        × ((ledger ≡ written_at ledger_header_bytes (account_words (map (posted_all x x.rows) (ledger_of b).accounts)) b)
        × (result ≡ written_at result_header_bytes (rows_words (credit x) x.rows) result₀))
    pass_ends end =
        let all : (header_of file).row_count ≤ i = omega (arith, row_count_lem p.tabled.read) in (
          sum_end (credit x) cents (credits x) (charged_end b file i all) pass.credits,
          (posting_ends p pass.bytes pass.posting all pass.within, crediting_ends b file pass.crediting all),
        )

    -- row i is posted
    module _ (taken : i < h.rows) where
      -- its words lie within the result
      pub one_lies : result_bytes h.rows ≤ length result₀ → result_bytes (i + 1) ≤ length result
      unfolding result_bytes
      one_lies room = omega (arith, result_long)

      -- the bonus that is read there keeps its bound
      pub bonus_few : {kw : ℕ} → kw ≡ word64 (drop (result_bytes i) result) 5 → kw ≤ most_actual
      bonus_few read = (bonus_read taken pass.crediting read).1

      -- the share of its bonus of a pool that ground 16 does not refuse
      module _ {cash : ℕ} (cash_is : cash ≡ pool x) (few : cash ≤ most_cents) {total : ℕ} (total_is : total ≡ total_bonus x)
          {kw : ℕ} (bonus : kw ≡ word64 (drop (result_bytes i) result) 5)
          {given : ℕ} (shared : given ≡ share cash total kw) where
        -- is its credit
        credited : given ≡ credit x (charged_at b file i)
        credited = credit_is taken cash_is total_is (bonus_read taken pass.crediting bonus).0 shared

        -- so the sum with it fits
        pub credits_more : cents + given < 2 ^ 64
        credits_more = omega (arith, credits_most taken cents pass.credits credited (omega (arith, cash_is)))

      -- its row is read
      module _ (row : RowValue) (read : row_in row ≡ row_words_at file i) where
        -- the ids from account j on are those of the ledger as it was
        ids_same : drop j (ids_in (ledger_of ledger)) ≡ drop j (ids_in (ledger_of b))
        ids_same = ids_kept p pass.bytes pass.posting

        -- the comparisons that find its account are left of the budget
        pub budget_lasts : comparisons row.id (drop j (ids_in (ledger_of ledger))) ≤ budget
        unfolding row_in
        budget_lasts = row_enough p.tabled.read pass.budget taken read ids_same

        -- the walk goes on to account k for it
        module _ {k : ℕ} (place : k ≡ j + before row.id (drop j (ids_in (ledger_of ledger)))) where
          -- it finds the row's account
          found : Found b file i j k
          found = walk_finds p taken row pass.walks read ids_same place

          -- which is one of the accounts
          pub account_there : {accounts : ℕ} → accounts ≡ account_count ledger → k < accounts
          account_there count = omega (arith, found.within, count, accounts_are p, accounts_kept)

          -- and lies within the ledger
          pub account_inside : ledger_bytes (k + 1) ≤ length ledger
          account_inside = omega (arith, account_lies p found.within, ledger_long)

          -- it is read as a, and raised as r
          module _ (a r : AccountValue) (account : account_in a ≡ account_at (drop (ledger_bytes k) ledger))
              (raise : account_in r ≡ raised row.committed (account_in a)) where
            -- the charge added to its sum fits
            pub charged_fits : {charge : ℕ} → charge ≡ word64 (drop (result_bytes i) result) 6
                → r.charged.0 + charge < 2 ^ 64
            charged_fits written =
                charge_fits taken found pass.bytes pass.posting pass.walks row read a r account raise
                (charge_read taken pass.crediting written)

            module _ {cash : ℕ} (cash_is : cash ≡ pool x) (few : cash ≤ most_cents) {total : ℕ}
                (total_is : total ≡ total_bonus x) {kw : ℕ} (bonus : kw ≡ word64 (drop (result_bytes i) result) 5)
                {given : ℕ} (shared : given ≡ share cash total kw) where
              -- and so does the credit
              pub credited_fits : r.credited.0 + given < 2 ^ 64
              credited_fits =
                  credit_fits taken found pass.bytes pass.posting pass.walks row read a r account raise
                  (omega (arith, cash_is)) cents pass.credits (credited cash_is few total_is bonus shared)

              -- once it is written, and the credit, the rows from i + 1 on are left, and the accounts behind the row's
              pub pass_turn : {charge : ℕ} → charge ≡ word64 (drop (result_bytes i) result) 6
                  → (out : AccountValue) → account_in out ≡ added charge given (account_in r)
                  → result_bytes h.rows ≤ length result₀ → {ledger' result' : List ℕ} {sums spent next left : ℕ}
                  → ledger' ≡ written_at (ledger_bytes k) (account_words (account_in out ∷ [])) ledger
                  → result' ≡ written_at (result_bytes i + 56) (given ∷ []) result → sums ≡ cents + given
                  → spent ≡ budget - comparisons row.id (drop j (ids_in (ledger_of ledger)))
                  → next ≡ k + 1 → left ≡ spent → Pass b file result₀ ledger' result' sums (i + 1) next left
              unfolding row_in
              pass_turn written out adds room {ledger'} {result'} {sums} {spent} {next} {left} put write sum take on rest =
                  let low = in_file p taken in
                  let mine = charge_read taken pass.crediting written in
                  let own_credit = credited cash_is few total_is bonus shared in
                  let lifted = as_raised taken found pass.bytes pass.posting pass.walks row read a r account raise in
                  let posts = adds ∙ (λ k. added (mine k) (own_credit k) (lifted k)) ∙ sym (posted_own taken found) in
                  let P : ℕ → Type 0 = λ next. Pass b file result₀ ledger' result' sums (i + 1) next left in
                  subst P (sym on) (record {
                    bytes = pass.bytes;
                    within = omega (arith, found.within);
                    walks = found.next;
                    posting = posting_turn p pass.bytes pass.posting low pass.walks found (account_in out) posts put;
                    crediting = crediting_turn b file pass.crediting low (one_lies room) own_credit write;
                    credits = rw sum (credits_next taken cents pass.credits own_credit);
                    budget = row_spends p.tabled.read pass.budget taken read ids_same place take refl rest;
                  })

-- by these, search finds what a turn of the pass knows
pub ruleset turns = (
  ledger_long,
  result_long,
  accounts_kept,
  next_within,
  accounts_lie,
  one_lies,
  bonus_few,
  credits_more,
  budget_lasts,
  account_there,
  account_inside,
  charged_fits,
  credited_fits,
  pass_turn,
)
