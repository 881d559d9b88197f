-- `page::steps::Paging::new` meets its contract. The page has no lines, and the ledger is zeros.
use native.Mathlib.Omega.{arith}
use Rattle.ledger.specs.Ledger.{ledger_bytes}
use Rattle.listing.specs.Npalist.{ledger_buffer}
use Rattle.page.specs.Steps.{no_lines, page_start}
use Rattle.page.specs.Code.{state_in}
use Rattle.page.proofs.steps.Paging.new.Goals as goal

pub returns-clause-start : goal.returns-clause-start
unfolding page_start no_lines state_in ledger_buffer ledger_bytes
returns-clause-start c = λ i. record {
  id = c.empty.ensures.id_value i;
  state = record {
    ledger = ledger_buffer;
    shortfall = c.empty.ensures.shortfall_value i;
    bonus = c.empty.ensures.bonus_value i;
  };
}

pub returns-clause-may_go_on : goal.returns-clause-may_go_on
unfolding state_in
returns-clause-may_go_on c = record {
  fits = record { shortfall = omega arith; bonus = omega arith };
  year = λ later. absurd (omega arith);
}
