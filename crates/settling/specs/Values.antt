-- What is known of a ledger and a file once grounds 6 to 14 are ruled out; and what charging leaves in a result.
use Rattle.std.specs.Prelude.{ℕ, ◌≡◌, List, false, cond, length, ltb}
use Rattle.words.specs.Words.{written_at}
use Rattle.reading.specs.Interval.{header_outside, rows_of}
use Rattle.reading.specs.Values.{header_in, Tabled, Scanned}
use Rattle.reading.specs.declared.header.Header.{Header as HeaderValue}
use Rattle.assessment.specs.Assessment.{Assessed}
use Rattle.ledger.specs.Ledger.{ledger_of}
use Rattle.ledger.specs.Values.{LedgerRead}
use Rattle.ledger.specs.declared.layout.Standing.{Standing as StandingValue}
use Rattle.settling.specs.Settling.{result_header_bytes, result_bytes, rows_words, row_ids_unknown}

-- values read from a ledger and a file that grounds 6 to 14 do not refuse
pub record Passed (ledger : List ℕ) (s : StandingValue) (file : List ℕ) (h : HeaderValue) : Type 0 where
  pub ledger_read : LedgerRead ledger s
  pub tabled : Tabled file h
  pub header_in_hold : header_outside (header_in h) ≡ false
  pub known : row_ids_unknown (ledger_of ledger) (rows_of file) ≡ false
  pub scanned : Scanned file

-- a result with the rows' words in it before their credits are known, each a 0; as it was if it has no room for them
unfoldable pub charged_result : Assessed → List ℕ → List ℕ
charged_result v b =
    cond (ltb (length b) (result_bytes (length v.rows))) b
    (written_at result_header_bytes (rows_words (λ c. 0) v.rows) b)
