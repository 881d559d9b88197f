-- A year of settling calls, with files and with events: the intervals and the rows that they gave,
-- read back from the result bytes.
use Rattle.std.specs.Prelude.{ℕ, zero, suc, ◌+◌, max, List, [], ◌∷◌, ◌++◌, cond, length, take, drop, ltb, eqb}
use Rattle.words.specs.Lists.{sum}
use Rattle.words.specs.Words.{word64}
use Rattle.stream.specs.Stream.{Next, next_block}
use Rattle.reading.specs.Interval.{Row, header_of, rows_of}
use Rattle.assessment.specs.Assessment.{Account}
use Rattle.settling.specs.Settling.{result_header_bytes, result_row_bytes, result_bytes, SettlingAnswer, settling}
use Rattle.event.specs.Event.{most_length, count_bytes}

-- a settling call: the file and the result buffer that it is handed
pub record Call : Type 0 where
  pub file : List ℕ
  pub result : List ℕ

-- a row given: the id and commitment of its file row, and its words 4 to 7 in the result
pub record GivenRow : Type 0 where
  pub id : ℕ
  pub committed : ℕ
  pub shortfall : ℕ
  pub bonus : ℕ
  pub charge : ℕ
  pub credit : ℕ

-- the rows given, of file rows whose result words begin at the front of b
unfoldable pub given_from : List Row → List ℕ → List GivenRow
given_from [] b = []
given_from (r ∷ rs) b =
    record {
      id = r.id;
      committed = r.committed;
      shortfall = word64 b 4;
      bonus = word64 b 5;
      charge = word64 b 6;
      credit = word64 b 7;
    }
    ∷ given_from rs (drop result_row_bytes b)

-- the rows that an accepted call gave, as it left them in the result
unfoldable pub given_by : List ℕ → List ℕ → List GivenRow
given_by file result = given_from (rows_of file) (drop result_header_bytes result)

-- an interval given: what words 1 to 4 of an accepted call's result say of it, and the rows that the call gave
pub record GivenInterval : Type 0 where
  pub charges : ℕ
  pub credits : ℕ
  pub carried : ℕ
  pub bonus : ℕ
  pub rows : List GivenRow

-- the interval that an accepted call gave, as it left it in the result
unfoldable pub interval_by : List ℕ → List ℕ → GivenInterval
interval_by file result =
    record {
      charges = word64 result 1;
      credits = word64 result 2;
      carried = word64 result 3;
      bonus = word64 result 4;
      rows = given_by file result;
    }

-- after some calls: the ledger, the intervals given, all their rows, and the interval of the last accepted file
pub record Year : Type 0 where
  pub ledger : List ℕ
  pub intervals : List GivenInterval
  pub given : List GivenRow
  pub last : GivenInterval

-- a year before any call: nothing is given, and the last interval is one of zeros
unfoldable pub new_year : List ℕ → Year
new_year ledger = record {
  ledger = ledger;
  intervals = [];
  given = [];
  last = record { charges = 0; credits = 0; carried = 0; bonus = 0; rows = [] };
}

-- a year after a call that had this answer; a refused one gives nothing
unfoldable pub after_answer : Year → Call → SettlingAnswer → Year
after_answer y c a =
    let i = interval_by c.file a.result in
    cond (eqb a.refusal 0)
    (record { ledger = a.ledger; intervals = y.intervals ++ (i ∷ []); given = y.given ++ i.rows; last = i })
    (record { ledger = a.ledger; intervals = y.intervals; given = y.given; last = y.last })

-- a year after one more call
unfoldable pub after_call : Year → Call → Year
after_call y c = after_answer y c (settling y.ledger c.file c.result)

-- a year after a list of calls
unfoldable pub after_calls : Year → List Call → Year
after_calls y [] = y
after_calls y (c ∷ cs) = after_calls (after_call y c) cs

-- the calls of settling that what comes next in an event makes:
-- one, with what is left of the result buffer, and those of the later files if it is accepted
unfoldable pub calls_next : (List ℕ → List ℕ → List ℕ → List Call) → List ℕ → List ℕ → Next → List Call
calls_next later ledger result (Next.stop e) = []
calls_next later ledger result (Next.block file rest) =
    let a = settling ledger file result in
    let n = result_bytes (header_of file).row_count in
    record { file = file; result = result } ∷ cond (eqb a.refusal 0) (later a.ledger rest (drop n a.result)) []

-- the calls that the files of an event make of a ledger, one for each file whose turn comes
unfoldable pub calls_over : ℕ → List ℕ → List ℕ → List ℕ → List Call
calls_over zero ledger files result = []
calls_over (suc budget) ledger files result = calls_next (calls_over budget) ledger result (next_block most_length files)

-- an event: the files, the result buffer and the count buffer that it is handed
pub record EventCall : Type 0 where
  pub files : List ℕ
  pub result : List ℕ
  pub count : List ℕ

-- a call of either sort
pub data AnyCall : Type 0 where
  settle : Call → AnyCall
  event : EventCall → AnyCall

-- the calls of settling that an event is; none without room for the number of files settled
unfoldable pub event_calls : List ℕ → EventCall → List Call
event_calls ledger e =
    cond (ltb (length e.count) count_bytes) [] (calls_over (length e.files + 1) ledger e.files e.result)

-- the calls of settling that a call of either sort is
unfoldable pub calls_of : List ℕ → AnyCall → List Call
calls_of ledger (AnyCall.settle c) = c ∷ []
calls_of ledger (AnyCall.event e) = event_calls ledger e

-- a year after a list of calls of both sorts
unfoldable pub after_all : Year → List AnyCall → Year
after_all y [] = y
after_all y (c ∷ cs) = after_all (after_calls y (calls_of y.ledger c)) cs

-- what accepted calls of a list leave in their results, of each as many bytes as its rows take
unfoldable pub results_left : List ℕ → List Call → List (List ℕ)
results_left ledger [] = []
results_left ledger (c ∷ cs) =
    let a = settling ledger c.file c.result in
    cond (eqb a.refusal 0)
    (take (result_bytes (header_of c.file).row_count) a.result ∷ results_left a.ledger cs)
    (results_left a.ledger cs)

-- what stands in the result buffer of an event for the file that comes next, and for later ones
unfoldable pub results_next : (List ℕ → List ℕ → List (List ℕ)) → List ℕ → Next → List (List ℕ)
results_next later result (Next.stop e) = []
results_next later result (Next.block file rest) =
    let n = result_bytes (header_of file).row_count in
    take n result ∷ later rest (drop n result)

-- what stands in the result buffer of an event for so many files, one after the other
unfoldable pub results_placed : ℕ → List ℕ → List ℕ → List (List ℕ)
results_placed zero files result = []
results_placed (suc n) files result = results_next (results_placed n) result (next_block most_length files)

-- rows with bonus: those whose bonus word is above 0
unfoldable pub rows_with_bonus : List GivenRow → ℕ
rows_with_bonus = sum (λ g. cond (ltb 0 g.bonus) 1 0)

-- a sum over the rows of one plant
unfoldable pub sum_of_plant : ℕ → (GivenRow → ℕ) → List GivenRow → ℕ
sum_of_plant i figure = sum (λ g. cond (eqb g.id i) (figure g) 0)

-- a plant's largest commitment so far: the greatest of its rows, 0 if there are none
unfoldable pub largest_of_plant : ℕ → List GivenRow → ℕ
largest_of_plant i [] = 0
largest_of_plant i (g ∷ gs) = max (cond (eqb g.id i) g.committed 0) (largest_of_plant i gs)

-- the account that a plant must have, by the rows given
unfoldable pub account_by_rows : List GivenRow → ℕ → Account
account_by_rows gs i = record {
  id = i;
  largest = largest_of_plant i gs;
  charged = sum_of_plant i (λ g. g.charge) gs;
  credited = sum_of_plant i (λ g. g.credit) gs;
}
