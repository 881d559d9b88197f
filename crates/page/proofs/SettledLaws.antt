-- The laws of an interval on a page: its refusal, no line, or the plant's line with its figures.
use Prim.Native.Nat.{ℕ, ◌+◌, ◌*◌, ◌≤◌, ◌<◌}
use mathlib.Core.Path.{◌≡◌, refl, sym, ap, ap₂, ◌∙◌, subst}
use mathlib.Core.List.{List, [], ◌∷◌, ◌++◌, append-nil, Memᴰ}
use mathlib.Core.Bool.{true}
use native.Mathlib.Omega.{arith}
use lib.ListN.{length, drop}
use lib.Seq.{drop-drop}
use borrow.Author.Tests.{eq-eqb, ne_eqb}
use Rattle.words.specs.Lists.{sum}
use Rattle.words.specs.Words.{word64}
use Rattle.words.specs.Refusals.{ground_number}
use Rattle.words.specs.declared.refusal.Refusal.{Refusal}
use Rattle.words.proofs.Refusals.{ground_some}
use Rattle.stream.specs.Steps.{Outcome}
use Rattle.stream.specs.Code.{StepTaken}
use Rattle.reading.specs.Interval.{most_kilowatts, header_of, rows_of}
use Rattle.assessment.specs.Assessment.{most_actual}
use Rattle.ledger.specs.Values.{before}
use Rattle.settling.specs.Settling.{result_header_bytes, result_row_bytes, result_bytes, SettlingAnswer, settling}
use Rattle.settling.proofs.Accepted.{accepted, settling_none}
use Rattle.settling.proofs.SettlingAnswers.{settling_accepts}
use Rattle.year.specs.Year.{given_by, interval_by}
use Rattle.year.proofs.Fits.{new, new_balance, interval_made}
use Rattle.listing.specs.Lines.{Line, bytes_of_line, bytes_of_lines}
use Rattle.listing.specs.Npalist.{row_line, file_lines, pool_line, interval_lines, result_buffer, interval_listed}
use Rattle.listing.specs.Code.{in_bytes}
use Rattle.listing.proofs.LineLaws.{one_line}
use Rattle.page.specs.Page.{on_page, chosen, figure_on, summed}
use Rattle.page.specs.Steps.{PageState, page_outcome}
use Rattle.page.specs.Code.{state_in, YearLedger, PageFits, RowPaged, Paged, PageMayGoOn}
use Rattle.page.specs.declared.lines.Page.{Page as PageValue}
use Rattle.page.proofs.RowLaws.{row_ids, no_line, one_line as own_line, one_given}
use Rattle.page.proofs.StepLaws.{chosen_append}

-- the words of row i begin where those of the rows before it end
row_place : (i : ℕ) (b : List ℕ) → drop (result_row_bytes * i) (drop result_header_bytes b) ≡ drop (result_bytes i) b
unfolding result_bytes
row_place i b = drop-drop (result_row_bytes * i) result_header_bytes b

-- of an accepted call, the words of the plant's row, row i, are within the bounds of shortfall and bonus
pub balance_in : (l file r result : List ℕ) (id i : ℕ) → (settling l file r).refusal ≡ 0
    → result ≡ (settling l file r).result
    → i ≡ before id (row_ids (rows_of file)) → i < length (rows_of file)
    → (word64 (drop (result_bytes i) result) 4 ≤ most_kilowatts) × (word64 (drop (result_bytes i) result) 5 ≤ most_actual)
unfolding given_by interval_by
balance_in l file r result id i none is at low =
    let a = accepted l file r none in
    let written = is ∙ ap (λ a. a.result) (settling_accepts l file r (settling_none l file r none)) in
    let made : given_by file result ≡ new l file = ap (given_by file) written
    ∙ ap (λ g. g.rows) (interval_made l file a) in
    let (g, m, short, extra) = one_given id (rows_of file) (drop result_header_bytes result) (omega arith) in
    let bounds = new_balance l file a g (subst (Memᴰ g) made m) in
    let place = ap (λ k. drop (result_row_bytes * k) (drop result_header_bytes result)) (sym at) ∙ row_place i result in
    (omega (arith, bounds.0, short, ap (λ b. word64 b 4) place), omega (arith, bounds.1, extra, ap (λ b. word64 b 5) place))

-- an interval block that has been settled into a ledger l, with a result of zeros, on the page of p
module _ (number : ℕ) (l file after result : List ℕ)
    (e : after ≡ (settling l file result_buffer).ledger) (is : result ≡ (settling l file result_buffer).result)
    (p : PageValue) where
  -- the call as it is defined
  abbrev answer : SettlingAnswer
  answer = settling l file result_buffer

  -- the step of the listing
  abbrev o : Outcome Line (List ℕ)
  o = interval_listed number l file

  -- the step, once the lines of the page are put and their figures added
  paged : (lines : List Line) (q : PageValue) → chosen p.id o.printed ≡ lines
      → q.shortfall.0 ≡ p.shortfall.0 + summed (λ r. r.shortfall) lines
      → q.bonus.0 ≡ p.bonus.0 + summed (λ r. r.bonus) lines → (before out : List ℕ)
      → out ≡ before ++ bytes_of_lines lines
      → StepTaken (in_bytes (page_outcome p.id (state_in l p) o)) (state_in after q) before out true
  unfolding page_outcome state_in in_bytes interval_listed
  paged lines q own short extra before out put =
      let shortfall = short ∙ ap (λ ls. p.shortfall.0 + summed (λ r. r.shortfall) ls) (sym own) in
      let bonus = extra ∙ ap (λ ls. p.bonus.0 + summed (λ r. r.bonus) ls) (sym own) in
      record {
        leaves = λ i. record { ledger = e i; shortfall = shortfall i; bonus = bonus i };
        puts = put ∙ ap (λ ls. before ++ bytes_of_lines ls) (sym own);
        goes_on = refl;
      }

  -- a refused interval: its line stands on every page, and adds nothing
  pub refused_paged : (refusal : Refusal) (said : ℕ) (before out : List ℕ) → ground_number refusal ≡ answer.refusal
      → said ≡ ground_number refusal → out ≡ before ++ bytes_of_line (Line.refused number said)
      → StepTaken (in_bytes (page_outcome p.id (state_in l p) o)) (state_in after p) before out true
  unfolding interval_listed interval_lines chosen on_page summed sum figure_on
  refused_paged refusal said before out g same put =
      let off = ne_eqb answer.refusal 0 (λ none. ground_some refusal (g ∙ none)) in
      let own : chosen p.id o.printed ≡ Line.refused number said ∷ [] =
      rw off (ap (λ g. Line.refused number g ∷ []) (sym (same ∙ g))) in
      paged (Line.refused number said ∷ []) p own (omega arith) (omega arith) before out
      (put ∙ ap (λ b. before ++ b) (one_line _))

  -- an accepted one
  module _ (none : 0 ≡ answer.refusal) where
    -- of its lines those of the plant's rows stand on the page
    rows_chosen : chosen p.id o.printed ≡ chosen p.id (file_lines file result)
    unfolding interval_listed interval_lines chosen on_page pool_line
    rows_chosen =
        rw (eq-eqb answer.refusal 0 (sym none))
        (chosen_append p.id (file_lines file answer.result) (pool_line (header_of file).interval answer.result ∷ [])
        ∙ append-nil (chosen p.id (file_lines file answer.result))
        ∙ ap (λ b. chosen p.id (file_lines file b)) (sym is))

    -- where the plant has no row, nothing is printed
    pub none_paged : (out : List ℕ) → length (rows_of file) ≤ before p.id (row_ids (rows_of file))
        → StepTaken (in_bytes (page_outcome p.id (state_in l p) o)) (state_in after p) out out true
    unfolding summed sum bytes_of_lines
    none_paged out past =
        paged [] p (rows_chosen ∙ no_line _ p.id (rows_of file) (drop result_header_bytes result) past) (omega arith)
        (omega arith) out out (sym (append-nil out))

    -- where row i is the plant's, its line is printed and its figures are added
    pub row_paged : (i interval : ℕ) (from out : List ℕ) (q : PageValue) → i ≡ before p.id (row_ids (rows_of file))
        → i < length (rows_of file)
        → interval ≡ (header_of file).interval → RowPaged p interval (drop (result_bytes i) result) from out q
        → StepTaken (in_bytes (page_outcome p.id (state_in l p) o)) (state_in after q) from out true
    unfolding summed sum figure_on row_line
    row_paged i interval from out q at low word row =
        let part = drop (result_bytes i) result in
        let up = (accepted l file result_buffer (sym none)).ids_rise in
        let place = ap (λ k. drop (result_row_bytes * k) (drop result_header_bytes result)) (sym at) ∙ row_place i result in
        let own : chosen p.id o.printed ≡ row_line interval p.id part ∷ [] =
        rows_chosen ∙ own_line (header_of file).interval p.id (rows_of file) (drop result_header_bytes result) up
        (omega arith)
        ∙ ap₂ (λ w b. row_line w p.id b ∷ []) (sym word) place
        in
        paged (row_line interval p.id part ∷ []) q own (omega (arith, row.shortfall)) (omega (arith, row.bonus)) from out
        (row.puts ∙ ap (λ b. from ++ b) (one_line _))

-- a page has at most one row of a block
pub page_more : (number : ℕ) (s t : PageState) → PageFits number s → t.shortfall ≤ s.shortfall + most_kilowatts
    → t.bonus ≤ s.bonus + most_actual → PageFits (number + 1) t
page_more number s t fits short extra =
    record { shortfall = omega (arith, fits.shortfall); bonus = omega (arith, fits.bonus) }

-- what holds of a page before the step of a block is so of the fields that it is made of
module _ (number : ℕ) (p : Paged) (m : PageValue) (l : List ℕ) (view : record { id = m.id; state = state_in l m } ≡ p)
    (held : PageMayGoOn number p) where
  -- its sums fit
  pub fields_fit : PageFits number (state_in l m)
  fields_fit = subst (λ p. PageFits number p.state) (sym view) held.fits

  -- and after the opening its ledger is one of a year
  pub fields_year : (number ≡ 0 → ⊥) → YearLedger l
  unfolding state_in
  fields_year later = subst (λ p. YearLedger p.state.ledger) (sym view) (held.year (omega arith))

  -- once it is opened the page may go on
  pub opened_held : (after : List ℕ) → YearLedger after
      → PageMayGoOn (number + 1) (record { id = m.id; state = state_in after m })
  unfolding state_in
  opened_held after year = record {
    fits = page_more number (state_in l m) (state_in after m) fields_fit (omega arith) (omega arith);
    year = λ later. year;
  }
