-- A call of settling: grounds 6 to 16 and 18, its answer, and the ledger and the result that it leaves.
use Rattle.std.specs.Prelude.{ℕ, ◌+◌, ◌*◌, List, [], ◌∷◌, ◌++◌, map, Bool, cond, not, ◌||◌, length, ltb, eqb}
use Rattle.words.specs.Lists.{any, rises}
use Rattle.words.specs.Words.{written}
use Rattle.words.specs.Grounds.{answered}
use Rattle.reading.specs.Block.{Terms}
use Rattle.reading.specs.Interval.{Header, Row, header_of, rows_of, not_a_file, header_outside, tables_misplaced, row_grounds}
use Rattle.assessment.specs.Assessment.{
  most_cents,
  Account,
  raised,
  added,
  ChargedRow,
  Assessed,
  assessed,
  printed_ratio,
  charges,
  total_bonus,
  pool,
  credit,
  credits,
  carried_on,
}
use Rattle.ledger.specs.Ledger.{Ledger, ledger_of, ledger_words, ids_in, not_a_ledger}

-- bytes of a result before its rows: 8 words of 8 bytes
abbrev pub result_header_bytes : ℕ
result_header_bytes = 64

-- a row: 8 words of 8 bytes
abbrev pub result_row_bytes : ℕ
result_row_bytes = 64

-- bytes of a row before its credit: 7 words of 8 bytes
abbrev pub credit_offset : ℕ
credit_offset = 56

-- bytes of a result of so many rows, and so where the words of the next row begin
unfoldable pub result_bytes : ℕ → ℕ
result_bytes n = result_header_bytes + result_row_bytes * n

-- the words of rows in a result, eight a row; the last of the eight is what the parameter gives the row as credit
unfoldable pub rows_words : (ChargedRow → ℕ) → List ChargedRow → List ℕ
rows_words credited [] = []
rows_words credited (c ∷ cs) =
    c.figures.expected ∷ c.figures.actual ∷ c.figures.outage ∷ c.figures.economic ∷ c.figures.shortfall
    ∷ c.figures.bonus ∷ c.charge ∷ credited c
    ∷ rows_words credited cs

-- the interval's eight words
unfoldable pub summary_words : Assessed → List ℕ
summary_words v =
    printed_ratio v.ratio ∷ charges v ∷ credits v ∷ carried_on v ∷ total_bonus v ∷ v.ratio.numerator
    ∷ v.ratio.denominator ∷ length v.rows ∷ []

-- the words of a result: the interval's eight, then each row's eight in file order
unfoldable pub result_words : Assessed → List ℕ
result_words v = summary_words v ++ rows_words (credit v) v.rows

-- the interval that a file makes of a ledger
unfoldable pub assessed_file : List ℕ → List ℕ → Assessed
assessed_file ledger file =
    let l = ledger_of ledger in
    assessed l.terms l.accounts l.carried (header_of file) (rows_of file)

-- ground 8: Net CONE or days of a file differ from those of a ledger; a file has no year
unfoldable pub other_terms : Terms → Header → Bool
other_terms ledger file = not (eqb file.net_cone ledger.net_cone) || not (eqb file.days ledger.days)

-- ground 10: the interval is before the earliest that the ledger accepts, its word 3
unfoldable pub too_early : List ℕ → List ℕ → Bool
too_early ledger file = ltb (header_of file).interval (ledger_of ledger).earliest

-- row ids do not rise strictly
unfoldable pub ids_do_not_rise : List Row → Bool
ids_do_not_rise rs = not (rises (map (λ r. r.id) rs))

-- a row's id is not in the ledger
unfoldable pub id_unknown : Ledger → List Row → Bool
id_unknown l rs = any (λ r. not (any (λ id. eqb id r.id) (ids_in l))) rs

-- ground 12: row ids do not rise strictly, or one is not in the ledger
unfoldable pub row_ids_unknown : Ledger → List Row → Bool
row_ids_unknown l rs = ids_do_not_rise rs || id_unknown l rs

-- ground 15: the result buffer is too short for the rows
unfoldable pub result_too_short : List ℕ → List ℕ → Bool
result_too_short file result = ltb (length result) (result_bytes (header_of file).row_count)

-- ground 16: the pool would be too large
unfoldable pub pool_too_large : Assessed → Bool
pool_too_large v = ltb most_cents (pool v)

-- grounds 8 to 15 and 18, of a ledger and a file that hold what their formats say, in checking order
unfoldable pub later_grounds : List ℕ → List ℕ → List ℕ → List (Bool × ℕ)
later_grounds ledger file result =
    (other_terms (ledger_of ledger).terms (header_of file), 8)
    ∷ (header_outside (header_of file), 9)
    ∷ (too_early ledger file, 10)
    ∷ (tables_misplaced file, 11)
    ∷ (row_ids_unknown (ledger_of ledger) (rows_of file), 12)
    ∷ (row_grounds file ++ ((result_too_short file result, 15) ∷ []))

-- the grounds before the pool, 6 to 15 and 18, in checking order
unfoldable pub grounds_before_pool : List ℕ → List ℕ → List ℕ → List (Bool × ℕ)
grounds_before_pool ledger file result = (not_a_ledger ledger, 6) ∷ (not_a_file file, 7) ∷ later_grounds ledger file result

-- grounds 6 to 16 and 18, in checking order
unfoldable pub settling_grounds : List ℕ → List ℕ → List ℕ → List (Bool × ℕ)
settling_grounds ledger file result =
    grounds_before_pool ledger file result ++ ((pool_too_large (assessed_file ledger file), 16) ∷ [])

-- an account after a row: if the row is its own, raised, with the row's charge and credit added
unfoldable pub posted : Assessed → ChargedRow → Account → Account
posted v c a = cond (eqb c.row.id a.id) (added c.charge (credit v c) (raised c.row.committed a)) a

-- an account after rows, one after the other
unfoldable pub posted_all : Assessed → List ChargedRow → Account → Account
posted_all v [] a = a
posted_all v (c ∷ cs) a = posted_all v cs (posted v c a)

-- the ledger after an accepted file: word 3 the interval plus 1, word 4 the cents carried, the accounts with charges
-- and credits added
unfoldable pub settled_ledger : List ℕ → List ℕ → Ledger
settled_ledger ledger file =
    let l = ledger_of ledger in
    let v = assessed_file ledger file in
    record {
      terms = l.terms;
      earliest = (header_of file).interval + 1;
      carried = carried_on v;
      accounts = map (posted_all v v.rows) l.accounts;
    }

-- what settling answers, and what it leaves in the ledger and in the result buffer
pub record SettlingAnswer : Type 0 where
  pub refusal : ℕ
  pub ledger : List ℕ
  pub result : List ℕ

-- a call of settling
unfoldable pub settling : List ℕ → List ℕ → List ℕ → SettlingAnswer
settling ledger file result =
    let refusal = answered (settling_grounds ledger file result) in
    cond (eqb refusal 0)
    (record {
      refusal = 0;
      ledger = written (ledger_words (settled_ledger ledger file)) ledger;
      result = written (result_words (assessed_file ledger file)) result;
    })
    (record { refusal = refusal; ledger = ledger; result = result })
