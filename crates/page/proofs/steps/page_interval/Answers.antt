-- `page::steps::page_interval` meets its contract. What settling answers chooses the line,
-- and the place of the plant's row.
use Prim.Native.Nat.{ℕ, ◌≤◌, ◌<◌}
use mathlib.Core.Path.{◌≡◌, sym, ap, subst, ◌∙◌}
use mathlib.Core.List.{List}
use native.Mathlib.Omega.{arith}
use borrow.Author.Rules.{rules}
use lib.ListN.{length, drop}
use Rattle.words.specs.Words.{word64}
use Rattle.reading.specs.Interval.{most_kilowatts, header_of, rows_of}
use Rattle.reading.specs.Values.{terms_in, header_in, Tabled}
use Rattle.reading.specs.declared.header.Header.{Header as HeaderValue}
use Rattle.reading.proofs.Facts.{length_tabled}
use Rattle.assessment.specs.Assessment.{most_actual}
use Rattle.ledger.specs.Values.{before}
use Rattle.settling.specs.Settling.{result_bytes, settling}
use Rattle.settling.proofs.Accepted.{header_said, accepted}
use Rattle.listing.specs.Npalist.{result_buffer}
use Rattle.page.specs.Code.{state_in}
use Rattle.page.proofs.RowLaws.{row_ids}
use Rattle.page.proofs.YearLaws.{year_settled}
use Rattle.page.proofs.SettledLaws.{refused_paged, none_paged, row_paged, balance_in, page_more}
use Rattle.page.proofs.steps.page_interval.Goals as goal

-- a call of settling that answers 0, and the header of its file
module _ (ledger file res : List ℕ) (none : 0 ≡ (settling ledger file res).refusal) (h : HeaderValue)
    (says : header_in h ≡ header_of file) where
  -- the file's tables lie as its header says
  tables_lie : Tabled file h
  unfolding header_in terms_in
  tables_lie = subst (Tabled file) (sym (ap header_said says)) (accepted ledger file res (sym none)).passed.tabled

  -- a place below the number of rows is one of a row
  row_there : (i : ℕ) → i < h.rows → i < length (rows_of file)
  row_there i low = omega (arith, length_tabled tables_lie)

  -- what the result has for the plant's row is within the bounds of shortfall and bonus
  row_fits : (result : List ℕ) (id i : ℕ) → result ≡ (settling ledger file res).result
      → i ≡ before id (row_ids (rows_of file)) → i < h.rows
      → (word64 (drop (result_bytes i) result) 4 ≤ most_kilowatts)
      × (word64 (drop (result_bytes i) result) 5 ≤ most_actual)
  row_fits result id i is at low = balance_in ledger file res result id i (sym none) is at (row_there i low)

pub returns-in-Err-clause-step_taken : goal.returns-in-Err-clause-step_taken
unfolding result_buffer
returns-in-Err-clause-step_taken g c =
    refused_paged _ _ _ _ _ c.settle_file.ensures.ledger_bytes c.settle_file.ensures.result_bytes c.args.page.now
    c.in-Err.refusal _ _ _ c.in-Err.ensures.answer (c.from.ensures ∙ c.number.ensures) c.put_refused.ensures.puts

pub returns-in-Err-clause-page_fits_on : goal.returns-in-Err-clause-page_fits_on
unfolding state_in
returns-in-Err-clause-page_fits_on g c = page_more _ _ _ c.requires.page_fits (omega arith) (omega arith)

pub returns-in-Err-clause-year_ledger_on : goal.returns-in-Err-clause-year_ledger_on
returns-in-Err-clause-year_ledger_on g c =
    year_settled _ _ _ c.requires.year_ledger c.settle_file.ensures.ledger_bytes

pub header_of-requires : goal.header_of-requires
header_of-requires g c = (accepted _ _ _ (sym c.in_default.ensures.answer)).passed.tabled.read.long

pub invariant_of-file : goal.invariant_of-file
invariant_of-file g c = record { tabled = tables_lie _ _ _ c.in_default.ensures.answer _ c.header_of.ensures }

pub page_row-requires : goal.page_row-requires
unfolding result_bytes header_in state_in
page_row-requires g c =
    let a = accepted _ _ _ (sym c.in_default.ensures.answer) in
    let rows = ap (λ h. h.row_count) c.header_of.ensures in
    let low = c.in-Some.ensures.1 in
    let fits = row_fits _ _ _ c.in_default.ensures.answer _ c.header_of.ensures
    _ _ _ c.settle_file.ensures.result_bytes c.in-Some.ensures.0 low in (
      search rules,
      (
        omega (arith, rows, a.passed.tabled.rows_few, low),
        (
          omega (arith, a.room, low, rows, c.settle_file.auto),
          (
            omega (arith, fits.0, c.requires.page_fits.shortfall, c.requires.few_blocks),
            (omega (arith, fits.1, c.requires.page_fits.bonus, c.requires.few_blocks), c.requires.room),
          ),
        ),
      ),
    )

pub returns-in-Some-clause-step_taken : goal.returns-in-Some-clause-step_taken
unfolding header_in result_buffer
returns-in-Some-clause-step_taken g c =
    row_paged _ _ _ _ _ c.settle_file.ensures.ledger_bytes
    c.settle_file.ensures.result_bytes c.args.page.now c.in_default.ensures.answer c.in-Some.i
    c.header_of.result.interval _ _ _ c.in-Some.ensures.0
    (row_there _ _ _ c.in_default.ensures.answer _ c.header_of.ensures _ c.in-Some.ensures.1)
    (ap (λ h. h.interval) c.header_of.ensures) c.page_row.ensures

pub returns-in-Some-clause-page_fits_on : goal.returns-in-Some-clause-page_fits_on
unfolding state_in
returns-in-Some-clause-page_fits_on g c =
    let words = row_fits _ _ _ c.in_default.ensures.answer _ c.header_of.ensures
    _ _ _ c.settle_file.ensures.result_bytes c.in-Some.ensures.0 c.in-Some.ensures.1 in
    page_more _ _ (state_in c.settle_file.new.ledger c.page_row.new.page) c.requires.page_fits
    (omega (arith, c.page_row.ensures.shortfall, words.0))
    (omega (arith, c.page_row.ensures.bonus, words.1))

pub returns-in-Some-clause-year_ledger_on : goal.returns-in-Some-clause-year_ledger_on
returns-in-Some-clause-year_ledger_on g c =
    year_settled _ _ _ c.requires.year_ledger c.settle_file.ensures.ledger_bytes

pub returns-in_default-row_of-clause-step_taken : goal.returns-in_default-row_of-clause-step_taken
unfolding result_buffer
returns-in_default-row_of-clause-step_taken g c =
    let t = tables_lie _ _ _ c.in_default.ensures.answer _ c.header_of.ensures in
    none_paged _ _ _ _ _ c.settle_file.ensures.ledger_bytes c.settle_file.ensures.result_bytes c.args.page.now
    c.in_default.ensures.answer _ (omega (arith, c.in_default-row_of.ensures {u = tt}, length_tabled t))

pub returns-in_default-row_of-clause-page_fits_on : goal.returns-in_default-row_of-clause-page_fits_on
unfolding state_in
returns-in_default-row_of-clause-page_fits_on g c = page_more _ _ _ c.requires.page_fits (omega arith) (omega arith)

pub returns-in_default-row_of-clause-year_ledger_on : goal.returns-in_default-row_of-clause-year_ledger_on
returns-in_default-row_of-clause-year_ledger_on g c =
    year_settled _ _ _ c.requires.year_ledger c.settle_file.ensures.ledger_bytes
