-- Wrong programs that could pass for settling, and for each a call on which it differs from the definition, by
-- computing it.
use Prim.Native.Nat.{ℕ, ◌+◌}
use mathlib.Core.Path.{◌≡◌, ap}
use mathlib.Core.List.{List, [], ◌∷◌, ◌++◌, map}
use mathlib.Core.Bool.{cond, ◌&&◌}
use native.Mathlib.Omega.{arith}
use lib.ListN.{get_or}
use lib.Dec.{ltb, eqb}
use Rattle.words.specs.Lists.{sum}
use Rattle.words.specs.Words.{word64, written}
use Rattle.words.specs.Grounds.{answered}
use Rattle.reading.specs.Interval.{header_of}
use Rattle.assessment.specs.Assessment.{most_cents, account_of, full_charge, charge, ChargedRow, Assessed, carried_on}
use Rattle.ledger.specs.Ledger.{Ledger, ledger_of, ledger_words}
use Rattle.ledger.specs.Figures.{buffer, opened_listing, ledger_with}
use Rattle.settling.specs.Settling.{
  result_words,
  assessed_file,
  grounds_before_pool,
  posted_all,
  settled_ledger,
  SettlingAnswer,
  settling,
}
use Rattle.settling.specs.Figures.{
  file_with,
  row11,
  row12,
  row13,
  row14,
  listing_points,
  listing_file,
  settled_listing,
  demand_file,
  full_pool,
}
use Rattle.settling.proofs.Computing.{computing}

-- the calls' data, opened
calls : ℕ
unfolding opened_listing ledger_with file_with row11 row12 row13 row14 listing_points listing_file settled_listing demand_file full_pool computing
calls = 0

-- a program of the same buffers
abbrev pub Program : Type 0
Program = List ℕ → List ℕ → List ℕ → SettlingAnswer

-- a program differs from settling on a call if what it gives there is not what the definition gives
abbrev pub Differs : Program → List ℕ → List ℕ → List ℕ → Type 0
Differs program ledger file result = program ledger file result ≡ settling ledger file result → ⊥

-- always refuses
pub always_refuses : Program
always_refuses ledger file result = record { refusal = 6; ledger = ledger; result = result }

-- differs on the listing's first file, which settling accepts
pub always_refuses_differs : Differs always_refuses opened_listing (listing_file 1000 0 0) (buffer 320)
unfolding always_refuses calls
always_refuses_differs same = omega (arith, ap (λ a. a.refusal) same)

-- answers 0 to everything
pub fixed_answer : Program
fixed_answer ledger file result =
    let answer = settling ledger file result in
    record { refusal = 0; ledger = answer.ledger; result = answer.result }

-- differs on a result buffer one byte too short, which settling refuses
pub fixed_answer_differs : Differs fixed_answer opened_listing (listing_file 1000 0 0) (buffer 319)
unfolding fixed_answer calls
fixed_answer_differs same = omega (arith, ap (λ a. a.refusal) same)

-- answers as it should, and does no work
pub does_no_work : Program
does_no_work ledger file result =
    record { refusal = (settling ledger file result).refusal; ledger = ledger; result = result }

-- differs on word 3 of the ledger, which settling moves past the interval
pub does_no_work_differs : Differs does_no_work opened_listing (listing_file 1000 0 0) (buffer 320)
unfolding does_no_work calls
does_no_work_differs same = omega (arith, ap (λ a. word64 a.ledger 3) same)

-- answers 16 from the charges as they are before the limits cut them
pub sixteen_too_soon : Program
sixteen_too_soon ledger file result =
    let v = assessed_file ledger file in
    let uncut = v.carried + sum (λ c. full_charge (ledger_of ledger).terms c.figures.shortfall) v.rows in
    cond (eqb (answered (grounds_before_pool ledger file result)) 0 && ltb most_cents uncut)
    (record { refusal = 16; ledger = ledger; result = result })
    (settling ledger file result)

-- differs on a full pool and a charge that the limit cuts to 0, which settling accepts
pub sixteen_too_soon_differs : Differs sixteen_too_soon full_pool (demand_file 2 0) (buffer 128)
unfolding sixteen_too_soon calls
sixteen_too_soon_differs same = omega (arith, ap (λ a. a.refusal) same)

-- settles one file, and at later ones moves word 3 and nothing else
pub only_moves_word3 : Program
only_moves_word3 ledger file result =
    let l = ledger_of ledger in
    let moved : Ledger = record {
      terms = l.terms;
      earliest = (header_of file).interval + 1;
      carried = l.carried;
      accounts = l.accounts;
    } in
    let answer = settling ledger file result in
    cond (eqb l.earliest 0) answer
    (record { refusal = answer.refusal; ledger = written (ledger_words moved) ledger; result = result })

-- differs on account 12's charged sum after a second file
pub only_moves_word_3_differs : Differs only_moves_word3 settled_listing (listing_file 1001 0 0) (buffer 320)
unfolding only_moves_word3 calls
only_moves_word_3_differs same = omega (arith, ap (λ a. word64 a.ledger 14) same)

-- writes the result before 16 is ruled out
pub result_first : Program
result_first ledger file result =
    let answer = settling ledger file result in
    let early = written (result_words (assessed_file ledger file)) result in
    record {
      refusal = answer.refusal;
      ledger = answer.ledger;
      result = cond (eqb answer.refusal 16) early answer.result;
    }

-- differs on word 0 of the result of a call that settling answers with 16
pub result_first_differs : Differs result_first full_pool (demand_file 3 0) (buffer 128)
unfolding result_first calls
result_first_differs same = omega (arith, ap (λ a. word64 a.result 0) same)

-- writes a word beyond the last account
pub writes_beyond : Program
writes_beyond ledger file result =
    let answer = settling ledger file result in
    let longer = written (ledger_words (settled_ledger ledger file) ++ 0 ∷ []) ledger in
    record {
      refusal = answer.refusal;
      ledger = cond (eqb answer.refusal 0) longer ledger;
      result = answer.result;
    }

-- differs on byte 192, the first beyond the last account, which settling leaves as it was
pub writes_beyond_differs : Differs writes_beyond opened_listing (listing_file 1000 0 0) (buffer 320)
unfolding writes_beyond calls
writes_beyond_differs same = omega (arith, ap (λ a. get_or a.ledger 192 0) same)

-- what a file leaves if it makes another interval than the definition's
settled_by : Assessed → Program
settled_by v ledger file result =
    let l = ledger_of ledger in
    let after : Ledger = record {
      terms = l.terms;
      earliest = (header_of file).interval + 1;
      carried = carried_on v;
      accounts = map (posted_all v v.rows) l.accounts;
    } in
    cond (eqb (settling ledger file result).refusal 0)
    (record { refusal = 0; ledger = written (ledger_words after) ledger; result = written (result_words v) result })
    (settling ledger file result)

-- leaves the carried cents out of the pool
pub carried_left_out : Program
carried_left_out ledger file result =
    let v = assessed_file ledger file in
    settled_by (record { ratio = v.ratio; rows = v.rows; carried = 0 }) ledger file result

-- differs on account 13's credited sum after a second file, with a cent carried into it
pub carried_left_out_differs : Differs carried_left_out settled_listing (listing_file 1001 0 0) (buffer 320)
unfolding carried_left_out settled_by calls
carried_left_out_differs same = omega (arith, ap (λ a. word64 a.ledger 19) same)

-- raises an account's largest commitment after the charge
pub raised_after : Program
raised_after ledger file result =
    let l = ledger_of ledger in
    let v = assessed_file ledger file in
    let before : ChargedRow → ChargedRow = λ c. record {
      row = c.row;
      figures = c.figures;
      charge = charge l.terms (account_of c.row.id l.accounts) c.figures.shortfall;
    } in
    settled_by (record { ratio = v.ratio; rows = map before v.rows; carried = v.carried }) ledger file result

-- differs on account 12's first charge, which a limit of 0 would cut to nothing
pub raised_after_differs : Differs raised_after opened_listing (listing_file 1000 0 0) (buffer 320)
unfolding raised_after settled_by calls
raised_after_differs same = omega (arith, ap (λ a. word64 a.ledger 14) same)
