-- The accounts of a ledger by their place: where each is read, and what writing one leaves.
use Prim.Native.Nat.{ℕ, zero, suc, ◌+◌, ◌-◌, ◌*◌, ◌<◌, ◌≤◌}
use mathlib.Core.Path.{◌≡◌, refl, sym, ap, ap₂, ◌∙◌}
use mathlib.Core.List.{List, [], ◌∷◌, ◌++◌, map}
use native.Mathlib.Numerals.{add-one}
use native.Mathlib.Omega.{arith}
use lib.ListN.{length, take, drop, get_or, length-map, length-drop, drop_of_length-le, take-append-drop, get_or-map}
use lib.Seq.{drop-cons, drop-drop, drop-append-le, length-take-le}
use Rattle.std.proofs.lemmas.List.{drop-map}
use Rattle.words.specs.Words.{number, number_at, word64, entries, written, written_at}
use Rattle.words.proofs.Words.{length_entries, entry_at}
use Rattle.words.proofs.Access.{length_written_at, beyond_kept, write_none, write_more}
use Rattle.reading.proofs.Order.{next_at}
use Rattle.reading.proofs.Tables.{table_start}
use Rattle.assessment.specs.Assessment.{Account, empty_account}
use Rattle.ledger.specs.Ledger.{
  ledger_header_bytes,
  account_bytes,
  standing_of,
  ledger_bytes,
  account_at,
  account_count,
  ledger_of,
  account_words,
  ids_in,
}

-- the accounts of a ledger b
module _ (b : List ℕ) where
  -- a ledger read from bytes has as many accounts as word 5 says
  pub length_accounts : length (ledger_of b).accounts ≡ account_count b
  unfolding ledger_of account_count
  length_accounts = length_entries account_bytes account_at (account_count b) (drop ledger_header_bytes b)

  -- and as many ids
  pub length_account_ids : length (ids_in (ledger_of b)) ≡ account_count b
  unfolding ids_in
  length_account_ids = length-map (ledger_of b).accounts (λ a. a.id) ∙ length_accounts

  -- account j is read where j accounts end
  pub account_is : (j : ℕ) (d : Account) → j < account_count b
      → get_or (ledger_of b).accounts j d ≡ account_at (drop (ledger_bytes j) b)
  unfolding ledger_of account_count ledger_bytes
  account_is j d h =
      entry_at account_bytes account_at (account_count b) (drop ledger_header_bytes b) j d h
      ∙ ap account_at (drop-drop (account_bytes * j) ledger_header_bytes b)

  -- below the count, the accounts from j on are account j and those from j + 1 on
  pub accounts_turn : (j : ℕ) → j < account_count b
      → drop j (ledger_of b).accounts ≡ account_at (drop (ledger_bytes j) b) ∷ drop (j + 1) (ledger_of b).accounts
  accounts_turn j h =
      let d = empty_account 0 in
      drop-cons (ledger_of b).accounts j d (omega (arith, length_accounts))
      ∙ ap₂ (λ a k. a ∷ drop k (ledger_of b).accounts) (account_is j d h) (sym (add-one j))

  -- from the count on, no account is left
  pub accounts_end : (j : ℕ) → account_count b ≤ j → drop j (ledger_of b).accounts ≡ []
  accounts_end j h = drop_of_length-le (ledger_of b).accounts {i = j} (omega (arith, length_accounts))

  -- the id of account j is the one read there
  pub id_is : (j : ℕ) → j < account_count b → get_or (ids_in (ledger_of b)) j 0 ≡ (account_at (drop (ledger_bytes j) b)).id
  unfolding ids_in empty_account
  id_is j h =
      get_or-map (λ a. a.id) (ledger_of b).accounts j (empty_account 0)
      ∙ ap (λ a. a.id) (account_is j (empty_account 0) h)

  -- below the count, the ids from j on are account j's and those from j + 1 on
  pub ids_turn : (j : ℕ) → j < account_count b
      → drop j (ids_in (ledger_of b)) ≡ (account_at (drop (ledger_bytes j) b)).id ∷ drop (j + 1) (ids_in (ledger_of b))
  ids_turn j h = next_at (ids_in (ledger_of b)) j (omega (arith, length_account_ids)) (sym (id_is j h))

  -- from the count on, no id is left
  pub ids_end : (j : ℕ) → account_count b ≤ j → drop j (ids_in (ledger_of b)) ≡ []
  ids_end j h = drop_of_length-le (ids_in (ledger_of b)) {i = j} (omega (arith, length_account_ids))

-- the entries of a table from j on are a table, too
table_drop : {A : Type 0} (size : ℕ) (read : List ℕ → A) (n j : ℕ) (b : List ℕ)
    → drop j (entries size read n b) ≡ entries size read (n - j) (drop (size * j) b)
unfolding entries
table_drop size read n zero b = table_start size read n b
table_drop size read zero (suc j) b = let none : 0 - suc j ≡ 0 = omega arith in rw none
table_drop size read (suc n) (suc j) b =
    let next : size + size * j ≡ size * suc j = omega arith in
    let left : suc n - suc j ≡ n - j = omega arith in
    table_drop size read n j (drop size b)
    ∙ rw (left, ← next) (ap (entries size read (n - j)) (drop-drop (size * j) size b))

-- two ledgers with the same bytes from account j on
module _ (b c : List ℕ) (j : ℕ) (count : account_count c ≡ account_count b)
    (same : drop (ledger_bytes j) c ≡ drop (ledger_bytes j) b) where
  -- have the same accounts from j on
  pub accounts_behind : drop j (ledger_of c).accounts ≡ drop j (ledger_of b).accounts
  unfolding ledger_of account_count ledger_bytes
  accounts_behind =
      left c ∙ ap₂ (λ n part. entries account_bytes account_at (n - j) part) count same ∙ sym (left b)
    where
      left : (b : List ℕ)
          → drop j (ledger_of b).accounts ≡ entries account_bytes account_at (account_count b - j) (drop (ledger_bytes j) b)
      left b =
          table_drop account_bytes account_at (account_count b) j (drop ledger_header_bytes b)
          ∙ ap (entries account_bytes account_at (account_count b - j))
          (drop-drop (account_bytes * j) ledger_header_bytes b)

  -- and the same ids
  pub ids_behind : drop j (ids_in (ledger_of c)) ≡ drop j (ids_in (ledger_of b))
  unfolding ids_in
  ids_behind =
      drop-map (λ a. a.id) j (ledger_of c).accounts ∙ ap (map (λ a. a.id)) accounts_behind
      ∙ sym (drop-map (λ a. a.id) j (ledger_of b).accounts)

-- a number in the front part of a buffer does not depend on what stands behind it
number_front : (n : ℕ) (front xs ys : List ℕ) → n ≤ length front → number n (front ++ xs) ≡ number n (front ++ ys)
unfolding number
number_front zero front xs ys h = refl
number_front (suc n) [] xs ys h = absurd (omega arith)
number_front (suc n) (x ∷ front) xs ys h = ap (λ rest. x + 256 * rest) (number_front n front xs ys (omega arith))

-- a number before the place where words are written stays
before_kept : (n at k : ℕ) (ws b : List ℕ) → k + n ≤ at → at ≤ length b
    → number_at n (written_at at ws b) k ≡ number_at n b k
unfolding number_at written_at
before_kept n at k ws b h room =
    let m = length-take-le at b room in
    let new = written ws (drop at b) in
    let part = drop k (take at b) in
    let long : length part ≡ at - k = length-drop k (take at b) ∙ ap (λ l. l - k) m in
    let front : k ≤ length (take at b) = omega (arith, m) in
    ap (number n) (drop-append-le k (take at b) new front)
    ∙ number_front n part new (drop at b) (omega (arith, long))
    ∙ ap (number n) (sym (drop-append-le k (take at b) (drop at b) front) ∙ ap (drop k) (take-append-drop at b))

-- words written behind the header leave what stands before the accounts
pub standing_kept : (at : ℕ) (ws b : List ℕ) → ledger_header_bytes ≤ at → at ≤ length b
    → standing_of (written_at at ws b) ≡ standing_of b
unfolding standing_of word64
standing_kept at ws b h room =
    let kept : (k : ℕ) → k < 8 → number_at 8 (written_at at ws b) (8 * k) ≡ number_at 8 b (8 * k) =
    λ k low. before_kept 8 at (8 * k) ws b (omega arith) room in
    λ i. record {
      terms = record { net_cone = kept 1 (omega arith) i; days = kept 2 (omega arith) i; year = kept 7 (omega arith) i };
      earliest = kept 3 (omega arith) i;
      carried = kept 4 (omega arith) i;
      account_count = kept 5 (omega arith) i;
    }

-- what writing account j leaves
pub record AccountWritten (j : ℕ) (b c : List ℕ) : Type 0 where
  pub bytes : length c ≡ length b
  pub standing : standing_of c ≡ standing_of b
  pub behind : drop (ledger_bytes (j + 1)) c ≡ drop (ledger_bytes (j + 1)) b
  pub accounts : drop (j + 1) (ledger_of c).accounts ≡ drop (j + 1) (ledger_of b).accounts
  pub ids : drop (j + 1) (ids_in (ledger_of c)) ≡ drop (j + 1) (ids_in (ledger_of b))

-- where there is room for it: the length, what stands before the accounts, and the accounts behind it
pub account_written : (j : ℕ) (a : Account) (b c : List ℕ) → ledger_bytes (j + 1) ≤ length b
    → c ≡ written_at (ledger_bytes j) (account_words (a ∷ [])) b
    → AccountWritten j b c
unfolding account_words ledger_bytes account_count
account_written j a b c room put =
    let at = ledger_bytes j in
    let words = account_words (a ∷ []) in
    let end : at + 8 * length words ≡ ledger_bytes (j + 1) = omega arith in
    let standing = ap standing_of put ∙ standing_kept at words b (omega arith) (omega arith) in
    let behind = ap (drop (ledger_bytes (j + 1))) put ∙ (rw end at (beyond_kept at words b (omega arith))) in
    let count = ap (λ s. s.account_count) standing in
    record {
      bytes = ap length put ∙ length_written_at at words b (omega arith);
      standing = standing;
      behind = behind;
      accounts = accounts_behind b c (j + 1) count behind;
      ids = ids_behind b c (j + 1) count behind;
    }

-- once account j of accounts that are to be written is written, those from the next place on are left to write
pub accounts_on : (j : ℕ) (a : Account) (rest : List Account) (b c goal : List ℕ) → ledger_bytes (j + 1) ≤ length b
    → c ≡ written_at (ledger_bytes j) (account_words (a ∷ [])) b
    → written_at (ledger_bytes j) (account_words (a ∷ rest)) b ≡ goal
    → written_at (ledger_bytes (j + 1)) (account_words rest) c ≡ goal
unfolding account_words ledger_bytes
accounts_on j a rest b c goal room put left =
    let words = account_words (a ∷ []) in
    let end : ledger_bytes j + 8 * length words ≡ ledger_bytes (j + 1) = omega arith in
    let more = write_more (ledger_bytes j) words (account_words rest) b (omega arith) in
    ap (written_at (ledger_bytes (j + 1)) (account_words rest)) put ∙ (rw end at more) ∙ left

-- where no account is left to write, all are written
pub accounts_written : (j : ℕ) {left : List Account} (b goal : List ℕ) → left ≡ []
    → written_at (ledger_bytes j) (account_words left) b ≡ goal → b ≡ goal
unfolding account_words
accounts_written j b goal none left =
    sym (write_none (ledger_bytes j) b) ∙ ap (λ l. written_at (ledger_bytes j) (account_words l) b) (sym none) ∙ left
