-- Every definition of this crate's specs, and of those below, opened at once: for a proof that computes.
use Prim.Native.Nat.{ℕ}
use Rattle.words.proofs.Computing.{computing as words_computing}
use Rattle.reading.specs.Formats.{sizes_outside, not_of_formats}
use Rattle.reading.specs.Block.{
  block_header_bytes,
  block_sizes,
  year_named,
  block_words,
  block_of,
  not_a_block,
  terms_outside,
  year_outside,
  year_unknown,
  ids_misplaced,
  ids_out_of_order,
}
use Rattle.reading.specs.Interval.{
  layout_of,
  header_of,
  point_of,
  point_at,
  row_words,
  row_words_at,
  row_words_of,
  schedule_words,
  table_schedules,
  as_schedule,
  schedules_named,
  schedule_at,
  curve_part,
  points_in,
  curve_of,
  schedule_of,
  row_with,
  row_of,
  rows_of,
  kind_of,
  file_sizes,
  not_a_file,
  header_outside,
  leaves,
  meet,
  places_outside,
  tables_misplaced,
  row_outside,
  schedules_beyond,
  kind_outside,
  schedules_outside,
  point_outside,
  falls_after,
  falls,
  curve_misplaced,
  curve_outside,
  points_outside,
  row_grounds,
}

unfoldable pub computing : ℕ
unfolding words_computing sizes_outside not_of_formats block_header_bytes block_sizes year_named block_words block_of not_a_block terms_outside year_outside year_unknown ids_misplaced ids_out_of_order layout_of header_of point_of point_at row_words row_words_at row_words_of schedule_words table_schedules as_schedule schedules_named schedule_at curve_part points_in curve_of schedule_of row_with row_of rows_of kind_of file_sizes not_a_file header_outside leaves meet places_outside tables_misplaced row_outside schedules_beyond kind_outside schedules_outside point_outside falls_after falls curve_misplaced curve_outside points_outside row_grounds
computing = 0
