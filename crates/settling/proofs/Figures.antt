-- Document 01's listing and the worked figures, computed.
use Prim.Native.Nat.{ℕ}
use mathlib.Core.Path.{refl}
use Rattle.ledger.specs.Figures.{block_with, listing_block, opened_listing, ledger_with}
use Rattle.settling.specs.Figures.{
  file_with,
  file_of_schedules,
  naming,
  row11,
  row12,
  row13,
  row14,
  listing_points,
  listing_file,
  settled_listing,
  result_listing,
  settles,
  demand_file,
  holds,
  passed_figures,
  full_pool,
  listing_of_schedules,
  row_with_points,
  row_of_kind,
  settling_figures,
  order_figures,
  leaves,
  settled_figures,
  ListingHolds,
  SettlingGroundFigures,
}
use Rattle.settling.proofs.Computing.{computing}

-- the listing's data and the tables, opened
listing : ℕ
unfolding block_with listing_block opened_listing ledger_with file_with file_of_schedules naming listing_of_schedules row11 row12 row13 row14 listing_points listing_file settled_listing result_listing settles demand_file holds passed_figures full_pool row_with_points row_of_kind settling_figures order_figures leaves settled_figures computing
listing = 0

-- settling the listing's file leaves its ledger and its result, to every byte
pub listing_holds : ListingHolds
unfolding listing
listing_holds = record { settled = refl }

-- all figures of the grounds and of accepted files come out as stated
pub settling_ground_figures : SettlingGroundFigures
unfolding listing
settling_ground_figures = record {
  passed_figures_hold = refl;
  settling_figures_hold = refl;
  order_figures_hold = refl;
  settled_figures_hold = refl;
  same_in_both = refl;
}
