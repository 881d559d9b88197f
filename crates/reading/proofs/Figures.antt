-- The worked figures of layouts and grounds, computed.
use mathlib.Core.Path.{refl}
use Rattle.reading.specs.Figures.{
  sample_block,
  dated_block,
  words_of_schedules,
  sample_file,
  scheduled_file,
  LayoutFigures,
  tables,
  three_tables,
  words_of_points,
  pointed,
  offering,
  two_rows,
  block_ground_figures,
  year_figures,
  file_ground_figures,
  table_figures,
  row_ground_figures,
  schedule_ground_figures,
  point_ground_figures,
  order_figures,
  ReadingGroundFigures,
}
use Rattle.reading.proofs.Computing.{computing}

-- each word of the sample block and the sample file is read from its place
pub layout_figures : LayoutFigures
unfolding sample_block dated_block words_of_schedules sample_file scheduled_file computing
layout_figures = record {
  block_words_hold = refl;
  block = refl;
  dated_words = refl;
  dated = refl;
  header = refl;
  header_2 = refl;
  row_words_hold = refl;
  rows = refl;
  rows_2 = refl;
  one_market = refl;
}

-- all figures of the grounds that a block or a file alone decides come out as stated
pub reading_ground_figures : ReadingGroundFigures
unfolding words_of_schedules tables three_tables words_of_points pointed offering two_rows block_ground_figures year_figures file_ground_figures table_figures row_ground_figures schedule_ground_figures point_ground_figures order_figures computing
reading_ground_figures = record {
  block = refl;
  year = refl;
  file = refl;
  tables = refl;
  row = refl;
  schedules = refl;
  points = refl;
  order = refl;
}
