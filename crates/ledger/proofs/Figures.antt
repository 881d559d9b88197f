-- The worked figures of opening and of ground 6, computed.
use mathlib.Core.Path.{refl}
use Rattle.ledger.specs.Figures.{
  block_with,
  dated_with,
  listing_block,
  opened_listing,
  opened2016,
  opens,
  opening_figures,
  opening_order,
  ledger_with,
  ledger_of_year,
  refused_on6,
  ledger_figures,
  LedgerFigures,
}
use Rattle.ledger.proofs.Computing.{computing}

-- the listing's opened ledger and all figures of opening and of ground 6 come out as stated
pub ledger_figures_hold : LedgerFigures
unfolding block_with dated_with listing_block opened_listing opened2016 opens opening_figures opening_order ledger_with ledger_of_year refused_on6 ledger_figures computing
ledger_figures_hold =
    record { opened = refl; opened_2016 = refl; opening_figures_hold = refl; opening_order_hold = refl; ledger_figures_hold = refl }
