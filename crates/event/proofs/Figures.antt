-- The worked figures of events, computed.
use mathlib.Core.Path.{refl}
use Rattle.stream.specs.Stream.{next_block}
use Rattle.ledger.specs.Figures.{opened_listing}
use Rattle.settling.specs.Figures.{
  file_with,
  row11,
  row12,
  row13,
  row14,
  listing_points,
  listing_file,
  settled_listing,
  result_listing,
}
use Rattle.settling.proofs.Computing.{computing}
use Rattle.event.specs.Event.{no_file, one_file, turn, settled_files, event}
use Rattle.event.specs.Figures.{framed, listing_framed, answers, settles, event_figures, EventFigures}

-- each worked figure of an event is what the definitions compute
pub event_figures_lem : EventFigures
unfolding computing next_block no_file one_file turn settled_files event framed listing_framed answers settles event_figures opened_listing file_with row11 row12 row13 row14 listing_points listing_file settled_listing result_listing
event_figures_lem = record {
  answers_and_counts = refl;
  settled = refl;
  refused = refl;
  no_room = refl;
  no_room_first = refl;
  no_room_for_none = refl;
}
