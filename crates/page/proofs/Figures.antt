-- The worked figures of pages, computed.
use Prim.Native.Nat.{ℕ}
use mathlib.Core.Path.{refl}
use Rattle.stream.specs.Stream.{bytes_of_next}
use Rattle.ledger.specs.Figures.{block_with, listing_block}
use Rattle.settling.specs.Figures.{file_with, row11, row12, row13, row14, listing_points, listing_file}
use Rattle.listing.specs.Figures.{counted, heading_text, listing_text, listing_stream}
use Rattle.listing.proofs.Computing.{computing}
use Rattle.page.specs.Page.{
  on_page,
  chosen,
  figure_on,
  summed,
  year_of,
  opened,
  on_roster,
  opening_of,
  lines_above,
  page_year,
  page_lines,
  npapage,
}
use Rattle.page.specs.Figures.{not_considered, PageFigures}

-- every definition of a page, opened at once
unfoldable paging : ℕ
unfolding computing bytes_of_next on_page chosen figure_on summed year_of opened on_roster opening_of lines_above page_year page_lines npapage
paging = 0

-- each worked figure of a page is what the definitions compute
pub page_figures : PageFigures
unfolding counted heading_text listing_text listing_stream block_with file_with row11 row12 row13 row14 listing_block listing_points listing_file not_considered paging
page_figures = record {
  charged = refl;
  credited = refl;
  last_plant = refl;
  two_intervals = refl;
  twice = refl;
  not_considered_hold = refl;
  no_rows = refl;
  outside = refl;
  zero = refl;
  most = refl;
  refused_interval = refl;
  cut_later = refl;
  long_interval = refl;
  refused_opening = refl;
  long_opening = refl;
  cut_opening = refl;
  no_opening = refl;
  no_id = refl;
  cut_id = refl;
}
