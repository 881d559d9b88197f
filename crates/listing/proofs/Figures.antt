-- The worked figures of npalist, computed.
use mathlib.Core.Path.{refl}
use Rattle.ledger.specs.Figures.{block_with, listing_block}
use Rattle.settling.specs.Figures.{file_with, row11, row12, row13, row14, listing_points, listing_file}
use Rattle.listing.specs.Figures.{counted, heading_text, listing_text, listing_stream, NpalistFigures}
use Rattle.listing.proofs.Computing.{computing}

-- each worked figure of npalist is what the definitions compute
pub npalist_figures : NpalistFigures
unfolding counted heading_text listing_text listing_stream block_with file_with row11 row12 row13 row14 listing_block listing_points listing_file computing
npalist_figures = record {
  listing = refl;
  empty = refl;
  cut_length = refl;
  cut_block = refl;
  opening_alone = refl;
  cut_later_length = refl;
  cut_later_block = refl;
  refused_opening = refl;
  no_opening = refl;
  refused_interval = refl;
  long_opening = refl;
  long_interval = refl;
  length_at_limit = refl;
  long_format_1 = refl;
  zero_digits = refl;
  one_digit = refl;
  two_digits = refl;
  most_digits_hold = refl;
}
