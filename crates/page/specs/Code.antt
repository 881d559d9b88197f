-- What the code's values say, and what is known of a page after some blocks.
use Rattle.std.specs.Prelude.{ℕ, ◌+◌, ◌*◌, ◌≤◌, ◌<◌, ◌≡◌, List, ◌++◌}
use Rattle.words.specs.Words.{Bytes, word64}
use Rattle.stream.specs.Stream.{Next}
use Rattle.stream.specs.Steps.{Outcome, step}
use Rattle.reading.specs.Interval.{most_kilowatts}
use Rattle.assessment.specs.Assessment.{most_actual}
use Rattle.ledger.specs.Opening.{opening}
use Rattle.year.specs.Year.{Call, new_year, after_calls}
use Rattle.listing.specs.Lines.{bytes_of_line}
use Rattle.listing.specs.Npalist.{row_line}
use Rattle.listing.specs.Code.{in_bytes}
use Rattle.page.specs.Steps.{PageState, page_steps}
use Rattle.page.specs.declared.lines.Page.{Page as PageValue}

-- the state that a ledger and the sums of a page make
unfoldable pub state_in : List ℕ → PageValue → PageState
state_in ledger p = record { ledger = ledger; shortfall = p.shortfall.0; bonus = p.bonus.0 }

-- a ledger that an accepted opening and any calls of settling leave
pub record YearLedger (ledger : List ℕ) : Type 0 where
  pub block : List ℕ
  pub buffer : List ℕ
  pub calls : List Call
  pub bytes : Bytes block
  pub accepted : (opening block buffer).refusal ≡ 0
  pub leaves : ledger ≡ (after_calls (new_year (opening block buffer).ledger) calls).ledger

-- a page after so many blocks, each of at most one row of its plant
pub record PageFits (number : ℕ) (s : PageState) : Type 0 where
  pub shortfall : s.shortfall ≤ most_kilowatts * number
  pub bonus : s.bonus ≤ most_actual * number

-- a row's line on a page as code puts it, and its figures added to the sums
pub record RowPaged (p : PageValue) (interval : ℕ) (row before after : List ℕ) (q : PageValue) : Type 0 where
  pub puts : after ≡ before ++ bytes_of_line (row_line interval p.id row)
  pub id : q.id ≡ p.id
  pub shortfall : q.shortfall.0 ≡ p.shortfall.0 + word64 row 4
  pub bonus : q.bonus.0 ≡ p.bonus.0 + word64 row 5

-- a plant, and the state of its page
pub record Paged : Type 0 where
  pub id : ℕ
  pub state : PageState

-- a plant's step on what comes next, which keeps its id
unfoldable pub plant_step : ℕ → Paged → Next → Outcome ℕ Paged
plant_step number p next =
    let o = in_bytes (step (page_steps p.id) number p.state next) in
    record { printed = o.printed; state = record { id = p.id; state = o.state }; on = o.on }

-- what holds before the step of a block: the sums fit, and after the opening the ledger is one of a year
pub record PageMayGoOn (number : ℕ) (p : Paged) : Type 0 where
  pub fits : PageFits number p.state
  pub year : 0 < number → YearLedger p.state.ledger
