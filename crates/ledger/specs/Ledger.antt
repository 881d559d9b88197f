-- The ledger: its layout, and ground 6.
use Rattle.std.specs.Prelude.{ℕ, ◌+◌, ◌*◌, List, [], ◌∷◌, ◌++◌, map, Bool, not, ◌||◌, ◌&&◌, length, drop, ltb, eqb}
use Rattle.words.specs.Lists.{sum, any}
use Rattle.words.specs.Words.{word64, entries}
use Rattle.words.specs.Grounds.{outside}
use Rattle.reading.specs.Block.{Terms, most_ids, terms_outside, year_outside, ids_out_of_order}
use Rattle.reading.specs.Interval.{intervals_per_day, most_kilowatts}
use Rattle.assessment.specs.Assessment.{most_cents, Account, limit}

-- bytes of a ledger before its accounts: 8 words of 8 bytes
abbrev pub ledger_header_bytes : ℕ
ledger_header_bytes = 64

-- an account: 4 words of 8 bytes
abbrev pub account_bytes : ℕ
account_bytes = 32

-- word 0
abbrev pub ledger_format : ℕ
ledger_format = 1

-- word 6: the word offset of the accounts
abbrev pub accounts_offset : ℕ
accounts_offset = 8

-- the largest credited sum
abbrev pub most_credited : ℕ
most_credited = 224870400000000

-- what stands before the accounts: terms, with the year in word 7, the earliest interval still accepted, carried cents,
-- and the number of accounts
pub record Standing : Type 0 where
  pub terms : Terms
  pub earliest : ℕ
  pub carried : ℕ
  pub account_count : ℕ

-- what stands before the accounts of a buffer
unfoldable pub standing_of : List ℕ → Standing
standing_of b = record {
  terms = record { net_cone = word64 b 1; days = word64 b 2; year = word64 b 7 };
  earliest = word64 b 3;
  carried = word64 b 4;
  account_count = word64 b 5;
}

-- a ledger: its terms, the earliest interval still accepted, the carried cents, and the accounts
pub record Ledger : Type 0 where
  pub terms : Terms
  pub earliest : ℕ
  pub carried : ℕ
  pub accounts : List Account

-- bytes of a ledger with so many accounts, and so where the next account begins
unfoldable pub ledger_bytes : ℕ → ℕ
ledger_bytes n = ledger_header_bytes + account_bytes * n

-- the account at the front of b
unfoldable pub account_at : List ℕ → Account
account_at b = record { id = word64 b 0; largest = word64 b 1; charged = word64 b 2; credited = word64 b 3 }

-- word 5: the number of accounts
unfoldable pub account_count : List ℕ → ℕ
account_count b = (standing_of b).account_count

-- the ledger that a buffer holds
unfoldable pub ledger_of : List ℕ → Ledger
ledger_of b =
    let s = standing_of b in
    record {
      terms = s.terms;
      earliest = s.earliest;
      carried = s.carried;
      accounts = entries account_bytes account_at s.account_count (drop ledger_header_bytes b);
    }

-- the words of accounts
unfoldable pub account_words : List Account → List ℕ
account_words [] = []
account_words (a ∷ rest) = a.id ∷ a.largest ∷ a.charged ∷ a.credited ∷ account_words rest

-- the eight words before the accounts
unfoldable pub standing_words : Standing → List ℕ
standing_words s =
    ledger_format ∷ s.terms.net_cone ∷ s.terms.days ∷ s.earliest ∷ s.carried ∷ s.account_count ∷ accounts_offset
    ∷ s.terms.year ∷ []

-- the words of a ledger: the header's eight, then each account's four
unfoldable pub ledger_words : Ledger → List ℕ
ledger_words l =
    standing_words
    (record { terms = l.terms; earliest = l.earliest; carried = l.carried; account_count = length l.accounts })
    ++ account_words l.accounts

-- the ids of a ledger
unfoldable pub ids_in : Ledger → List ℕ
ids_in l = map (λ a. a.id) l.accounts

-- word 0 or 6 is not as laid out
unfoldable pub not_laid_out : List ℕ → Bool
not_laid_out b = not (eqb (word64 b 0) ledger_format) || not (eqb (word64 b 6) accounts_offset)

-- terms that no ledger has: against ground 2, or with a year other than 0 that no block may name
unfoldable pub ledger_terms_outside : Terms → Bool
ledger_terms_outside t = terms_outside t || (not (eqb t.year 0) && year_outside t)

-- an account's commitment, charged sum or credited sum is too large
unfoldable pub account_outside : Terms → Account → Bool
account_outside t a =
    ltb most_kilowatts a.largest || ltb (limit t a.largest) a.charged || ltb most_credited a.credited

-- charged sums are not credited sums plus carried
unfoldable pub does_not_close : Ledger → Bool
does_not_close l = not (eqb (sum (λ a. a.charged) l.accounts) (sum (λ a. a.credited) l.accounts + l.carried))

-- ground 6: the length, words 0 and 6, terms with the year, number of ids and ids (of 64 bits) as grounds 2, 23, 3
-- and 4 have them, the accounts' bytes, word 3, carried, accounts, sums
unfoldable pub not_a_ledger : List ℕ → Bool
not_a_ledger b =
    let l = ledger_of b in
    ltb (length b) ledger_header_bytes || not_laid_out b
    || ledger_terms_outside l.terms || outside 1 most_ids (account_count b) || ids_out_of_order (ids_in l)
    || ltb (length b) (ledger_bytes (account_count b))
    || ltb (intervals_per_day * l.terms.days) l.earliest || ltb most_cents l.carried
    || any (account_outside l.terms) l.accounts || does_not_close l
