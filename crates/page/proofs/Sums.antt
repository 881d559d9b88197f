-- The sums of a plant's lines are those of the rows that the year's calls gave.
use Prim.Native.Nat.{ℕ, zero, suc, ◌+◌}
use mathlib.Core.Path.{◌≡◌, refl, sym, ap, ap₂, ◌∙◌}
use mathlib.Core.List.{List, [], ◌∷◌, ◌++◌}
use mathlib.Core.Bool.{Bool, true, false, cond}
use native.Mathlib.Nat.{zero-add}
use native.Mathlib.Omega.{arith}
use lib.ListN.{drop}
use lib.Dec.{eqb}
use Rattle.words.specs.Lists.{sum}
use Rattle.words.specs.Words.{word64}
use Rattle.words.proofs.Ints.{never}
use Rattle.words.proofs.Lists.{sum_append}
use Rattle.stream.specs.Stream.{End, Next, next_block, bytes_of_next, after}
use Rattle.stream.specs.Steps.{Outcome, step, joined, steps_over}
use Rattle.reading.specs.Interval.{Row, header_of, rows_of}
use Rattle.ledger.specs.Opening.{opening}
use Rattle.settling.specs.Settling.{result_header_bytes, result_row_bytes, SettlingAnswer, settling}
use Rattle.year.specs.Year.{Call, GivenRow, given_from, given_by, interval_by, Year, new_year, after_answer, after_call, after_calls, sum_of_plant}
use Rattle.year.proofs.Calls.{answer_leaves}
use Rattle.listing.specs.Lines.{RowLine, Line}
use Rattle.listing.specs.Npalist.{
  row_line,
  row_lines,
  file_lines,
  pool_line,
  interval_lines,
  result_buffer,
  opening_listed,
  interval_listed,
  block_listed,
  most_bytes,
  listing_steps,
  ledger_buffer,
}
use Rattle.page.specs.Page.{on_page, chosen, figure_on, summed}
use Rattle.page.proofs.StepLaws.{chosen_append, opened_zero, opened_silent, opening_leaves}
use Rattle.page.proofs.Printed.{over_next, summed_append, end_chosen, end_none, listed_block}

-- the row that a file row is given, whose result words begin at the front of b
abbrev pub given_at : Row → List ℕ → GivenRow
given_at r b = record { id = r.id; committed = r.committed; shortfall = word64 b 4; bonus = word64 b 5; charge = word64 b 6; credit = word64 b 7 }

-- a figure f of a row's line that is a figure g of the row given, and the plant with an id
module _ (f : RowLine → ℕ) (g : GivenRow → ℕ) (same : (interval : ℕ) (r : Row) (b : List ℕ) → figure_on f (row_line interval r.id b) ≡ g (given_at r b)) (id : ℕ) where
  -- the sum over the plant's lines
  abbrev pub line_sum : List Line → ℕ
  line_sum ls = summed f (chosen id ls)

  -- the sum over the plant's rows given
  abbrev pub given_sum : List GivenRow → ℕ
  given_sum gs = sum_of_plant id g gs

  -- over lines and others
  line_sum_append : (xs ys : List Line) → line_sum (xs ++ ys) ≡ line_sum xs + line_sum ys
  line_sum_append xs ys = ap (summed f) (chosen_append id xs ys) ∙ summed_append f (chosen id xs) (chosen id ys)

  -- over rows given and others
  given_sum_append : (xs ys : List GivenRow) → given_sum (xs ++ ys) ≡ given_sum xs + given_sum ys
  unfolding sum_of_plant
  given_sum_append xs ys = sum_append (λ g'. cond (eqb g'.id id) (g g') 0) xs ys

  -- the lines of rows have the sum of the rows given
  rows_sum : (interval : ℕ) (rs : List Row) (b : List ℕ) → line_sum (row_lines interval rs b) ≡ given_sum (given_from rs b)
  unfolding row_lines given_from chosen summed sum sum_of_plant on_page row_line
  rows_sum interval [] b = refl
  rows_sum interval (r ∷ rs) b = by (eqb r.id id) (rows_sum interval rs (drop result_row_bytes b))
    where
      by : (t : Bool) → line_sum (row_lines interval rs (drop result_row_bytes b))
          ≡ given_sum (given_from rs (drop result_row_bytes b))
          → summed f (cond t (row_line interval r.id b ∷ chosen id (row_lines interval rs (drop result_row_bytes b))) (chosen id (row_lines interval rs (drop result_row_bytes b))))
          ≡ cond t (g (given_at r b)) 0 + given_sum (given_from rs (drop result_row_bytes b))
      by true below = ap₂ (λ m n. m + n) (same interval r b) below
      by false below = below ∙ sym (zero-add _)

  -- a call of settling that the listing makes
  abbrev call_of : List ℕ → Call
  call_of file = record { file = file; result = result_buffer }

  -- the lines of a settled file have the sum of the rows that it gives
  settled_sum : (y : Year) (file result : List ℕ)
      → given_sum y.given + line_sum (file_lines file result ++ (pool_line (header_of file).interval result ∷ []))
      ≡ given_sum (y.given ++ (interval_by file result).rows)
  unfolding interval_by given_by
  settled_sum y file result =
      let pool : line_sum (pool_line (header_of file).interval result ∷ []) ≡ 0 = unfold chosen on_page pool_line summed sum in refl in
      let lines = line_sum_append (file_lines file result) (pool_line (header_of file).interval result ∷ []) in
      let rows = rows_sum (header_of file).interval (rows_of file) (drop result_header_bytes result) in
      let given = given_sum_append y.given (given_from (rows_of file) (drop result_header_bytes result)) in
      omega (arith, pool, lines, rows, given)

  -- and a refusal has none
  refused_sum : (number refusal : ℕ) (y : Year)
      → given_sum y.given + line_sum (Line.refused number refusal ∷ []) ≡ given_sum y.given
  unfolding chosen on_page summed sum figure_on
  refused_sum number refusal y = omega arith

  -- the lines of an interval block, accepted or refused, have the sum of the rows that its call gives
  call_sum : (number : ℕ) (y : Year) (file : List ℕ)
      → given_sum y.given + line_sum (interval_listed number y.ledger file).printed
      ≡ given_sum (after_call y (call_of file)).given
  unfolding interval_listed interval_lines after_call after_answer
  call_sum number y file =
      by (settling y.ledger file result_buffer) (eqb (settling y.ledger file result_buffer).refusal 0)
    where
      by : (a : SettlingAnswer) (t : Bool)
          → given_sum y.given + line_sum (cond t (file_lines file a.result ++ (pool_line (header_of file).interval a.result ∷ [])) (Line.refused number a.refusal ∷ []))
          ≡ given_sum (cond {A = Year} t
          (record {
            ledger = a.ledger;
            intervals = y.intervals ++ (interval_by file a.result ∷ []);
            given = y.given ++ (interval_by file a.result).rows;
            last = interval_by file a.result;
          })
          (record { ledger = a.ledger; intervals = y.intervals; given = y.given; last = y.last })).given
      by a true = settled_sum y file a.result
      by a false = refused_sum number a.refusal y

  -- an end leaves the ledger
  end_ledger : (budget number : ℕ) (y : Year) (e : End)
      → (over_next listing_steps budget number y.ledger (Next.stop e)).state ≡ y.ledger
  unfolding over_next step
  end_ledger budget number y e = refl

  -- and adds nothing
  end_sum : (budget number : ℕ) (y : Year) (e : End)
      → given_sum y.given + line_sum (over_next listing_steps budget number y.ledger (Next.stop e)).printed
      ≡ given_sum y.given
  unfolding over_next step listing_steps
  end_sum budget number y e = omega (arith, ap (summed f) (end_chosen id number e), end_none id f number e)

  -- a call leaves the listing's ledger
  call_ledger : (number : ℕ) (y : Year) (file : List ℕ)
      → (interval_listed number y.ledger file).state ≡ (after_call y (call_of file)).ledger
  unfolding interval_listed after_call
  call_ledger number y file = sym (answer_leaves y (call_of file) (settling y.ledger file result_buffer))

  -- the lines of one outcome and then another
  joined_lines : (first later all : Outcome Line (List ℕ)) → all ≡ joined first later
      → line_sum all.printed ≡ line_sum (first.printed ++ later.printed)
  unfolding joined
  joined_lines first later all e = ap (λ o. line_sum o.printed) e

  -- and what they leave
  joined_state : (first later all : Outcome Line (List ℕ)) → all ≡ joined first later → all.state ≡ later.state
  unfolding joined
  joined_state first later all e = ap (λ o. o.state) e

  -- what the listing's steps leave of a year: the ledger after some calls, and the sums of the rows that they gave
  abbrev pub Given : ℕ → ℕ → Year → List ℕ → Type 0
  Given budget number y stream =
      let o = steps_over listing_steps budget number y.ledger stream in
      (calls : List Call) × (o.state ≡ (after_calls y calls).ledger)
      × (given_sum y.given + line_sum o.printed ≡ given_sum (after_calls y calls).given)

  -- from what comes next on
  given_next : (budget : ℕ)
      → ((number : ℕ) (y : Year) (stream : List ℕ) → (number ≡ 0 → ⊥) → Given budget number y stream)
      → (number : ℕ) (y : Year) (n : Next) → (number ≡ 0 → ⊥) → let o =
      over_next listing_steps budget number y.ledger n in
      (calls : List Call) × (o.state ≡ (after_calls y calls).ledger)
      × (given_sum y.given + line_sum o.printed ≡ given_sum (after_calls y calls).given)
  unfolding after_calls
  given_next budget below number y (Next.stop e) some = ([], end_ledger budget number y e, end_sum budget number y e)
  given_next budget below number y (Next.block bytes rest) some =
      let o = interval_listed number y.ledger bytes in
      let first = listed_block id budget number y.ledger bytes rest some in
      let next = after_call y (call_of bytes) in
      let left : o.state ≡ next.ledger = call_ledger number y bytes in
      let later : List ℕ → Outcome Line (List ℕ) = λ l. steps_over listing_steps budget (number + 1) l rest in
      let (calls, ledger, sums) = below (number + 1) next rest (λ z. omega arith) in
      let split = line_sum_append o.printed (later o.state).printed in
      let same = ap (λ l. line_sum (later l).printed) left in
      let one = call_sum number y bytes in
      let all : line_sum (over_next listing_steps budget number y.ledger (Next.block bytes rest)).printed ≡ line_sum (o.printed ++ (later o.state).printed) =
      joined_lines o (later o.state) _ first in
      (call_of bytes ∷ calls, joined_state o (later o.state) _ first ∙ ap (λ l. (later l).state) left ∙ ledger, omega (arith, all, split, same, one, sums))

  -- after any steps
  given_after : (budget number : ℕ) (y : Year) (stream : List ℕ) → (number ≡ 0 → ⊥) → Given budget number y stream
  unfolding steps_over over_next listing_steps after_calls chosen summed sum
  given_after zero number y stream some = ([], refl, omega arith)
  given_after (suc budget) number y stream some =
      given_next budget (given_after budget) number y (next_block (most_bytes number) stream) some

  -- an accepted opening prints nothing, and leaves the ledger of a year without calls
  first_joined : (budget : ℕ) (bytes rest : List ℕ) → (opening_listed ledger_buffer bytes).on ≡ true
      → over_next listing_steps budget 0 ledger_buffer (Next.block bytes rest)
      ≡ steps_over listing_steps budget 1 (new_year (opening bytes ledger_buffer).ledger).ledger rest
  unfolding over_next step listing_steps block_listed after new_year joined
  first_joined budget bytes rest on =
      let o = opening_listed ledger_buffer bytes in
      let later = steps_over listing_steps budget 1 o.state rest in
      ap (λ t. cond t (joined o later) o) on
      ∙ ap (λ ls. record { printed = ls ++ later.printed; state = later.state; on = later.on })
      (opened_silent ledger_buffer bytes on)
      ∙ ap (λ l. steps_over listing_steps budget 1 l rest) (opening_leaves ledger_buffer bytes)

  -- a year without calls has given nothing
  from_none : (l : List ℕ) (m n : ℕ) → given_sum (new_year l).given + m ≡ n → m ≡ n
  unfolding new_year sum_of_plant sum
  from_none l m n e = sym (zero-add m) ∙ e

  -- what comes first in a stream, where it is an opening that is accepted, and the steps after it
  pub given_first : (budget : ℕ) (n : Next) → (step listing_steps 0 ledger_buffer n).on ≡ true
      → let o = over_next listing_steps budget 0 ledger_buffer n in
      let a = opening (bytes_of_next n) ledger_buffer in
      (calls : List Call) × (a.refusal ≡ 0) × (o.state ≡ (after_calls (new_year a.ledger) calls).ledger)
      × (line_sum o.printed ≡ given_sum (after_calls (new_year a.ledger) calls).given)
  unfolding step listing_steps block_listed bytes_of_next
  given_first budget (Next.stop e) on = never on
  given_first budget (Next.block bytes rest) on =
      let (calls, ledger, sums) = given_after budget 1 (new_year (opening bytes ledger_buffer).ledger) rest
      (λ z. omega arith) in
      let first = first_joined budget bytes rest on in
      (calls, opened_zero ledger_buffer bytes on, ap (λ o. o.state) first ∙ ledger, ap (λ o. line_sum o.printed) first ∙ from_none _ _ _ sums)
