-- Worked figures of the layouts and of the grounds that a block or a file alone decides.
use Rattle.std.specs.Prelude.{ℕ, suc, ◌+◌, ◌-◌, ◌*◌, ◌^◌, ◌≡◌, List, [], ◌∷◌, ◌++◌, length, replicate, ℤ, pos, negsuc}
use Rattle.words.specs.Words.{bytes_of_words}
use Rattle.words.specs.Grounds.{answered}
use Rattle.words.specs.Figures.{Figure, ◌gives◌, AllAsStated, test}
use Rattle.reading.specs.Block.{
  Terms,
  block_words,
  block_of,
  not_a_block,
  terms_outside,
  year_outside,
  year_unknown,
  ids_misplaced,
  ids_out_of_order,
}
use Rattle.reading.specs.Interval.{
  Header,
  Point,
  RowWords,
  ScheduleWords,
  header_of,
  row_words_of,
  rows_of,
  not_a_file,
  header_outside,
  tables_misplaced,
  row_outside,
  schedules_outside,
  points_outside,
  row_grounds,
}

-- a block with a word before its ids, and another after them
unfoldable pub sample_block : List ℕ
sample_block = bytes_of_words 4 (1 ∷ 2 ∷ 3 ∷ 2 ∷ 24 ∷ 99 ∷ 7 ∷ 8 ∷ 99 ∷ [])

-- a block that names its year, with a word before its ids, and another after them
unfoldable pub dated_block : List ℕ
dated_block = bytes_of_words 4 (2 ∷ 3 ∷ 4 ∷ 2 ∷ 28 ∷ 2016 ∷ 99 ∷ 7 ∷ 8 ∷ 99 ∷ [])

-- the words of a schedule: kind, first point, number of points
abbrev pub schedule : ℕ → ℕ → ℕ → ScheduleWords
schedule kind first count = record { kind = kind; first = first; count = count }

-- the words of schedules
unfoldable pub words_of_schedules : List ScheduleWords → List ℕ
words_of_schedules [] = []
words_of_schedules (s ∷ ss) = s.kind ∷ s.first ∷ s.count ∷ words_of_schedules ss

-- a file of one row whose words all differ, before which three points stand
unfoldable pub sample_file : List ℕ
sample_file =
    bytes_of_words 4 (
    1 ∷ 2 ∷ 3 ∷ 4 ∷ 5 ∷ 4294967290 ∷ 1 ∷ 64 ∷ 3 ∷ 40
    ∷ 91 ∷ 92 ∷ 4294967286 ∷ 94 ∷ 95 ∷ 96
    ∷ 11 ∷ 12 ∷ 13 ∷ 14 ∷ 4294967281 ∷ 16 ∷ 17 ∷ 18 ∷ 19 ∷ 20 ∷ 21 ∷ 4294967274 ∷ 1 ∷ 2
    ∷ []
    )

-- the same points, then a table of schedules, then the row: the file has so many schedules, the row names some of them
unfoldable pub scheduled_file : List ScheduleWords → ℕ → ℕ → ℕ → List ℕ
scheduled_file schedules first count dispatched =
    bytes_of_words 4 (
    2 ∷ 2 ∷ 3 ∷ 4 ∷ 5 ∷ 4294967290 ∷ 1 ∷ (72 + 12 * length schedules) ∷ 3 ∷ 48 ∷ length schedules ∷ 72
    ∷ 91 ∷ 92 ∷ 4294967286 ∷ 94 ∷ 95 ∷ 96
    ∷ []
    )
    ++ bytes_of_words 4 (words_of_schedules schedules)
    ++ bytes_of_words 4 (
    11 ∷ 12 ∷ 13 ∷ 14 ∷ 4294967281 ∷ 16 ∷ 17 ∷ 18 ∷ 19 ∷ 20 ∷ 21 ∷ 4294967274 ∷ first ∷ count ∷ dispatched
    ∷ []
    )

-- each word is read from its place
pub record LayoutFigures : Type 0 where
  pub block_words_hold : block_words sample_block
      ≡ record { format = 1; terms = record { net_cone = 2; days = 3; year = 0 }; id_count = 2; ids_offset = 24 }
  pub block : block_of sample_block ≡ record { terms = record { net_cone = 2; days = 3; year = 0 }; ids = 7 ∷ 8 ∷ [] }
  pub dated_words : block_words dated_block
      ≡ record { format = 2; terms = record { net_cone = 3; days = 4; year = 2016 }; id_count = 2; ids_offset = 28 }
  pub dated : block_of dated_block ≡ record { terms = record { net_cone = 3; days = 4; year = 2016 }; ids = 7 ∷ 8 ∷ [] }
  pub header : header_of sample_file
      ≡ record {
        format = 1;
        interval = 2;
        net_cone = 3;
        days = 4;
        region_wide = 5;
        imports = negsuc 5;
        row_count = 1;
        rows_offset = 64;
        point_count = 3;
        points_offset = 40;
        schedule_count = 0;
        schedules_offset = 40;
      }
  pub header_2 : header_of (scheduled_file (schedule 9 9999 77 ∷ schedule 1 1 2 ∷ []) 1 1 0)
      ≡ record {
        format = 2;
        interval = 2;
        net_cone = 3;
        days = 4;
        region_wide = 5;
        imports = negsuc 5;
        row_count = 1;
        rows_offset = 96;
        point_count = 3;
        points_offset = 48;
        schedule_count = 2;
        schedules_offset = 72;
      }
  pub row_words_hold : row_words_of sample_file
      ≡ record {
        id = 11;
        kind = 12;
        committed = 13;
        owned = 14;
        metered = negsuc 14;
        adjustment = pos 16;
        planned = 17;
        forced = 18;
        maximum = 19;
        minimum = 20;
        online = 21;
        lmp = negsuc 21;
        first = 1;
        count = 2;
        dispatched = 0;
      }
      ∷ []
  pub rows : rows_of sample_file
      ≡ record {
        id = 11;
        kind = 12;
        committed = 13;
        owned = 14;
        metered = negsuc 14;
        adjustment = pos 16;
        planned = 17;
        forced = 18;
        maximum = 19;
        minimum = 20;
        online = 21;
        lmp = negsuc 21;
        schedules =
            record {
              kind = 1;
              curve = record { price = negsuc 9; kw = 94 } ∷ record { price = pos 95; kw = 96 } ∷ [];
            }
            ∷ [];
        dispatched = 0;
      }
      ∷ []
  -- schedules of a row stand one behind the other, and may share points; one that no row names is free
  pub rows_2 : rows_of (scheduled_file (schedule 9 9999 77 ∷ schedule 1 1 2 ∷ schedule 3 2 1 ∷ []) 1 2 1)
      ≡ record {
        id = 11;
        kind = 12;
        committed = 13;
        owned = 14;
        metered = negsuc 14;
        adjustment = pos 16;
        planned = 17;
        forced = 18;
        maximum = 19;
        minimum = 20;
        online = 21;
        lmp = negsuc 21;
        schedules =
            record { kind = 1; curve = record { price = negsuc 9; kw = 94 } ∷ record { price = pos 95; kw = 96 } ∷ [] }
            ∷ record { kind = 3; curve = record { price = pos 95; kw = 96 } ∷ [] }
            ∷ [];
        dispatched = 1;
      }
      ∷ []
  -- a row of format 1 with points is one of format 2 with one market schedule
  pub one_market : rows_of sample_file ≡ rows_of (scheduled_file (schedule 1 1 2 ∷ []) 0 1 0)

-- a header of an interval in a year of so many days, region-wide, and net imports
abbrev pub header_with : ℕ → ℕ → ℕ → ℤ → Header
header_with interval days region_wide imports = record {
  format = 1;
  interval = interval;
  net_cone = 1;
  days = days;
  region_wide = region_wide;
  imports = imports;
  row_count = 0;
  rows_offset = 0;
  point_count = 0;
  points_offset = 0;
  schedule_count = 0;
  schedules_offset = 0;
}

-- a header with so many bytes behind it: rows, their offset, points, their offset
unfoldable pub tables : ℕ → ℕ → ℕ → ℕ → ℕ → List ℕ
tables bytes rows rows_offset points points_offset =
    bytes_of_words 4 (1 ∷ 0 ∷ 0 ∷ 0 ∷ 0 ∷ 0 ∷ rows ∷ rows_offset ∷ points ∷ points_offset ∷ []) ++ replicate bytes 0

-- the same in format 2: after the points, schedules and their offset
unfoldable pub three_tables : ℕ → ℕ → ℕ → ℕ → ℕ → ℕ → ℕ → List ℕ
three_tables bytes rows rows_offset points points_offset schedules schedules_offset =
    bytes_of_words 4 (
    2 ∷ 0 ∷ 0 ∷ 0 ∷ 0 ∷ 0 ∷ rows ∷ rows_offset ∷ points ∷ points_offset ∷ schedules ∷ schedules_offset
    ∷ []
    )
    ++ replicate bytes 0

-- the words of a row: kind, committed, owned, metered, adjustment, planned, forced, maximum, minimum, online, LMP,
-- its first point or schedule, their number, and the one dispatched on
abbrev pub words_with : ℕ → ℕ → ℕ → ℤ → ℤ → ℕ → ℕ → ℕ → ℕ → ℕ → ℤ → ℕ → ℕ → ℕ → RowWords
words_with kind committed owned metered adjustment planned forced maximum minimum online lmp first count dispatched =
    record {
      id = 1;
      kind = kind;
      committed = committed;
      owned = owned;
      metered = metered;
      adjustment = adjustment;
      planned = planned;
      forced = forced;
      maximum = maximum;
      minimum = minimum;
      online = online;
      lmp = lmp;
      first = first;
      count = count;
      dispatched = dispatched;
    }

-- words of a row with nothing in it but schedules: the first of them, their number, and the one dispatched on
abbrev pub naming : ℕ → ℕ → ℕ → RowWords
naming = words_with 0 0 0 (pos 0) (pos 0) 0 0 0 0 0 (pos 0)

-- words of a row with nothing in it but points: the first of them, and their number
abbrev pub named : ℕ → ℕ → RowWords
named first count = naming first count 0

-- a point
abbrev pub at : ℤ → ℕ → Point
at price kw = record { price = price; kw = kw }

-- the word that holds a signed number
abbrev pub word_of : ℤ → ℕ
word_of (pos n) = n
word_of (negsuc n) = 2 ^ 32 - suc n

-- the words of points
unfoldable pub words_of_points : List Point → List ℕ
words_of_points [] = []
words_of_points (p ∷ ps) = word_of p.price ∷ p.kw ∷ words_of_points ps

-- a file whose header is followed by these points
unfoldable pub pointed : List Point → List ℕ
pointed ps = bytes_of_words 4 (1 ∷ 0 ∷ 0 ∷ 0 ∷ 0 ∷ 0 ∷ 0 ∷ 0 ∷ length ps ∷ 40 ∷ words_of_points ps)

-- a file of format 2 whose header is followed by these schedules and points
unfoldable pub offering : List ScheduleWords → List Point → List ℕ
offering ss ps =
    bytes_of_words 4 (
    2 ∷ 0 ∷ 0 ∷ 0 ∷ 0 ∷ 0 ∷ 0 ∷ 0 ∷ length ps ∷ (48 + 12 * length ss) ∷ length ss ∷ 48
    ∷ words_of_schedules ss
    )
    ++ bytes_of_words 4 (words_of_points ps)

-- a file of one point, one schedule and two rows that name it: which one the first was dispatched on, the second row's
-- kind and which one it was dispatched on, and the schedule's number of points
unfoldable pub two_rows : ℕ → ℕ → ℕ → ℕ → List ℕ
two_rows dispatched kind later points =
    bytes_of_words 4 (
    2 ∷ 0 ∷ 0 ∷ 0 ∷ 0 ∷ 0 ∷ 2 ∷ 48 ∷ 1 ∷ 180 ∷ 1 ∷ 168
    ∷ 1 ∷ 0 ∷ 0 ∷ 0 ∷ 0 ∷ 0 ∷ 0 ∷ 0 ∷ 0 ∷ 0 ∷ 0 ∷ 0 ∷ 0 ∷ 1 ∷ dispatched
    ∷ 2 ∷ kind ∷ 0 ∷ 0 ∷ 0 ∷ 0 ∷ 0 ∷ 0 ∷ 0 ∷ 0 ∷ 0 ∷ 0 ∷ 0 ∷ 1 ∷ later
    ∷ 1 ∷ 0 ∷ points
    ∷ 0 ∷ 0
    ∷ []
    )

-- the terms of a Net CONE, days and a year
abbrev pub terms_with : ℕ → ℕ → ℕ → Terms
terms_with net_cone days year = record { net_cone = net_cone; days = days; year = year }

-- a block of a format with these terms and no ids: whether ground 23 refuses it
abbrev pub refused_year : ℕ → ℕ → ℕ → ℕ
refused_year format days year =
    test (year_unknown (record { format = format; terms = terms_with 1 days year; id_count = 0; ids_offset = 0 }))

-- grounds 1 to 4, at a bound and beyond it
unfoldable pub block_ground_figures : List Figure
block_ground_figures =
    test (not_a_block (bytes_of_words 4 (1 ∷ 0 ∷ 0 ∷ 0 ∷ 0 ∷ []))) gives 0
    ∷ test (not_a_block (bytes_of_words 4 (1 ∷ 0 ∷ 0 ∷ 0 ∷ []) ++ replicate 3 0)) gives 1
    ∷ test (not_a_block (bytes_of_words 4 (1 ∷ []) ++ replicate 4092 0)) gives 0
    ∷ test (not_a_block (bytes_of_words 4 (1 ∷ []) ++ replicate 4093 0)) gives 1
    -- format 2 begins at 24 bytes; there is no format 0 or 3
    ∷ test (not_a_block (bytes_of_words 4 (2 ∷ 0 ∷ 0 ∷ 0 ∷ 0 ∷ 0 ∷ []))) gives 0
    ∷ test (not_a_block (bytes_of_words 4 (2 ∷ 0 ∷ 0 ∷ 0 ∷ 0 ∷ []) ++ replicate 3 0)) gives 1
    ∷ test (not_a_block (bytes_of_words 4 (2 ∷ 0 ∷ 0 ∷ 0 ∷ 0 ∷ []))) gives 1
    ∷ test (not_a_block (bytes_of_words 4 (2 ∷ []) ++ replicate 4092 0)) gives 0
    ∷ test (not_a_block (bytes_of_words 4 (2 ∷ []) ++ replicate 4093 0)) gives 1
    ∷ test (not_a_block (replicate 24 0)) gives 1
    ∷ test (not_a_block (bytes_of_words 4 (3 ∷ 0 ∷ 0 ∷ 0 ∷ 0 ∷ 0 ∷ []))) gives 1
    ∷ test (terms_outside (terms_with 0 365 0)) gives 1
    ∷ test (terms_outside (terms_with 1 365 0)) gives 0
    ∷ test (terms_outside (terms_with 200000 366 0)) gives 0
    ∷ test (terms_outside (terms_with 200001 366 0)) gives 1
    ∷ test (terms_outside (terms_with 1 364 0)) gives 1
    ∷ test (terms_outside (terms_with 1 367 0)) gives 1
    -- the year is not ground 2's
    ∷ test (terms_outside (terms_with 1 365 2017)) gives 0
    ∷ test (ids_misplaced (bytes_of_words 4 (1 ∷ 1 ∷ 365 ∷ 0 ∷ 20 ∷ []))) gives 1
    ∷ test (ids_misplaced (bytes_of_words 4 (1 ∷ 1 ∷ 365 ∷ 1 ∷ 20 ∷ 7 ∷ []))) gives 0
    ∷ test (ids_misplaced (bytes_of_words 4 (1 ∷ 1 ∷ 365 ∷ 1 ∷ 19 ∷ 7 ∷ []))) gives 1
    ∷ test (ids_misplaced (bytes_of_words 4 (1 ∷ 1 ∷ 365 ∷ 1 ∷ 21 ∷ 7 ∷ []))) gives 1
    -- in format 2 the ids lie from byte 24 on
    ∷ test (ids_misplaced (bytes_of_words 4 (2 ∷ 1 ∷ 365 ∷ 1 ∷ 24 ∷ 2018 ∷ 7 ∷ []))) gives 0
    ∷ test (ids_misplaced (bytes_of_words 4 (2 ∷ 1 ∷ 365 ∷ 1 ∷ 23 ∷ 2018 ∷ 7 ∷ []))) gives 1
    ∷ test (ids_misplaced (bytes_of_words 4 (2 ∷ 1 ∷ 365 ∷ 1 ∷ 20 ∷ 2018 ∷ 7 ∷ []))) gives 1
    ∷ test (ids_misplaced (bytes_of_words 4 (1 ∷ 1 ∷ 365 ∷ 512 ∷ 20 ∷ []) ++ replicate 2048 1)) gives 0
    ∷ test (ids_misplaced (bytes_of_words 4 (1 ∷ 1 ∷ 365 ∷ 513 ∷ 20 ∷ []) ++ replicate 2052 1)) gives 1
    ∷ test (ids_out_of_order (1 ∷ 2 ∷ [])) gives 0
    ∷ test (ids_out_of_order (0 ∷ 2 ∷ [])) gives 1
    ∷ test (ids_out_of_order (2 ∷ 2 ∷ [])) gives 1
    ∷ test (ids_out_of_order (2 ∷ 1 ∷ [])) gives 1
    ∷ []

-- ground 23: the years of format 2, at a bound and beyond it; format 1 names none
unfoldable pub year_figures : List Figure
year_figures =
    refused_year 2 365 2016 gives 0
    ∷ refused_year 2 366 2016 gives 1
    ∷ refused_year 2 365 2015 gives 1
    ∷ refused_year 2 365 2017 gives 1
    ∷ refused_year 2 365 2018 gives 0
    ∷ refused_year 2 366 2018 gives 0
    ∷ refused_year 2 365 2023 gives 0
    ∷ refused_year 2 366 2023 gives 0
    ∷ refused_year 2 365 2024 gives 1
    ∷ refused_year 2 365 0 gives 1
    ∷ refused_year 2 365 4294967295 gives 1
    ∷ refused_year 1 365 0 gives 0
    ∷ refused_year 1 366 0 gives 0
    ∷ test (year_outside (terms_with 1 365 4294969312)) gives 1
    ∷ []

-- grounds 7, 9 and 11, at a bound and beyond it
unfoldable pub file_ground_figures : List Figure
file_ground_figures =
    test (not_a_file (tables 0 0 0 0 0)) gives 0
    ∷ test (not_a_file (bytes_of_words 4 (1 ∷ []) ++ replicate 35 0)) gives 1
    ∷ test (not_a_file (tables 49112 0 0 0 0)) gives 0
    ∷ test (not_a_file (tables 49113 0 0 0 0)) gives 1
    ∷ test (not_a_file (replicate 40 0)) gives 1
    -- format 2 has from 48 to 61440 bytes; there is no format 3
    ∷ test (not_a_file (three_tables 0 0 0 0 0 0 0)) gives 0
    ∷ test (not_a_file (bytes_of_words 4 (2 ∷ []) ++ replicate 43 0)) gives 1
    ∷ test (not_a_file (three_tables 61392 0 0 0 0 0 0)) gives 0
    ∷ test (not_a_file (three_tables 61393 0 0 0 0 0 0)) gives 1
    ∷ test (not_a_file (bytes_of_words 4 (3 ∷ []) ++ replicate 44 0)) gives 1
    ∷ test (header_outside (header_with 105119 365 1 (pos 40000000))) gives 0
    ∷ test (header_outside (header_with 105120 365 0 (pos 0))) gives 1
    ∷ test (header_outside (header_with 105407 366 0 (negsuc 39999999))) gives 0
    ∷ test (header_outside (header_with 105408 366 0 (pos 0))) gives 1
    ∷ test (header_outside (header_with 0 365 2 (pos 0))) gives 1
    ∷ test (header_outside (header_with 0 365 0 (pos 40000001))) gives 1
    ∷ test (header_outside (header_with 0 365 0 (negsuc 40000000))) gives 1
    ∷ test (tables_misplaced (tables 64 1 40 1 96)) gives 0
    ∷ test (tables_misplaced (tables 64 1 48 1 40)) gives 0
    ∷ test (tables_misplaced (tables 64 0 40 1 96)) gives 1
    ∷ test (tables_misplaced (tables 64 1 39 1 96)) gives 1
    ∷ test (tables_misplaced (tables 64 1 40 1 97)) gives 1
    ∷ test (tables_misplaced (tables 64 1 49 1 40)) gives 1
    ∷ test (tables_misplaced (tables 64 1 40 1 95)) gives 1
    ∷ test (tables_misplaced (tables 64 1 47 1 40)) gives 1
    ∷ test (tables_misplaced (tables 56 1 40 0 40)) gives 0
    ∷ test (tables_misplaced (tables 56 1 40 0 96)) gives 0
    ∷ test (tables_misplaced (tables 56 1 40 0 39)) gives 1
    ∷ test (tables_misplaced (tables 56 1 40 0 97)) gives 1
    ∷ test (tables_misplaced (tables 64 1 4294967295 1 40)) gives 1
    ∷ test (tables_misplaced (tables 28672 512 40 0 40)) gives 0
    ∷ test (tables_misplaced (tables 28728 513 40 0 40)) gives 1
    ∷ test (tables_misplaced (tables 16440 1 40 2048 96)) gives 0
    ∷ test (tables_misplaced (tables 16448 1 40 2049 96)) gives 1
    ∷ []

-- ground 11 in format 2, at a bound and beyond it
unfoldable pub table_figures : List Figure
table_figures =
    test (tables_misplaced (three_tables 80 1 48 1 108 1 116)) gives 0
    ∷ test (tables_misplaced (three_tables 80 1 47 1 108 1 116)) gives 1
    ∷ test (tables_misplaced (three_tables 80 1 56 1 48 1 116)) gives 0
    ∷ test (tables_misplaced (three_tables 80 1 56 1 47 1 116)) gives 1
    ∷ test (tables_misplaced (three_tables 80 1 60 1 120 1 48)) gives 0
    ∷ test (tables_misplaced (three_tables 80 1 60 1 120 1 47)) gives 1
    ∷ test (tables_misplaced (three_tables 80 1 48 1 108 1 117)) gives 1
    ∷ test (tables_misplaced (three_tables 80 1 48 1 107 1 116)) gives 1
    ∷ test (tables_misplaced (three_tables 80 1 48 1 120 1 107)) gives 1
    ∷ test (tables_misplaced (three_tables 80 1 48 1 108 1 115)) gives 1
    -- an empty table too stands from byte 48 to the end, and shares no byte
    ∷ test (tables_misplaced (three_tables 60 1 48 0 48 0 48)) gives 0
    ∷ test (tables_misplaced (three_tables 60 1 48 0 60 0 108)) gives 0
    ∷ test (tables_misplaced (three_tables 60 1 48 0 47 0 48)) gives 1
    ∷ test (tables_misplaced (three_tables 60 1 48 0 48 0 47)) gives 1
    ∷ test (tables_misplaced (three_tables 60 1 48 0 48 0 40)) gives 1
    ∷ test (tables_misplaced (three_tables 60 1 48 0 48 0 109)) gives 1
    ∷ test (tables_misplaced (three_tables 12348 1 48 0 48 1024 108)) gives 0
    ∷ test (tables_misplaced (three_tables 12360 1 48 0 48 1025 108)) gives 1
    ∷ test (tables_misplaced (three_tables 30720 512 48 0 48 0 48)) gives 0
    ∷ test (tables_misplaced (three_tables 30780 513 48 0 48 0 48)) gives 1
    ∷ []

-- ground 13, at a bound and beyond it
unfoldable pub row_ground_figures : List Figure
row_ground_figures =
    test
    (row_outside
    (words_with 3 4000000 4000000 (pos 4000000) (negsuc 3999999) 4000000 4000000 4000000 4000000 1 (pos 1000000) 0 0 0))
    gives 0
    ∷ test (row_outside (words_with 4 0 0 (negsuc 3999999) (pos 4000000) 0 0 0 0 0 (negsuc 999999) 0 0 0)) gives 0
    ∷ test (row_outside (words_with 5 0 0 (negsuc 3999999) (pos 4000000) 0 0 0 0 0 (negsuc 999999) 0 0 0)) gives 0
    ∷ test (row_outside (words_with 6 0 0 (pos 0) (pos 0) 0 0 0 0 0 (pos 0) 0 0 0)) gives 1
    ∷ test (row_outside (words_with 4 1 0 (pos 0) (pos 0) 0 0 0 0 0 (pos 0) 0 0 0)) gives 1
    ∷ test (row_outside (words_with 5 1 0 (pos 0) (pos 0) 0 0 0 0 0 (pos 0) 0 0 0)) gives 1
    -- the words of an importer that no rule uses are held to the same bounds
    ∷ test (row_outside (words_with 5 0 4000001 (pos 0) (pos 0) 0 0 0 0 0 (pos 0) 0 0 0)) gives 1
    ∷ test (row_outside (words_with 0 4000001 0 (pos 0) (pos 0) 0 0 0 0 0 (pos 0) 0 0 0)) gives 1
    ∷ test (row_outside (words_with 0 0 4000001 (pos 0) (pos 0) 0 0 0 0 0 (pos 0) 0 0 0)) gives 1
    ∷ test (row_outside (words_with 0 0 0 (pos 4000001) (pos 0) 0 0 0 0 0 (pos 0) 0 0 0)) gives 1
    ∷ test (row_outside (words_with 0 0 0 (negsuc 4000000) (pos 0) 0 0 0 0 0 (pos 0) 0 0 0)) gives 1
    ∷ test (row_outside (words_with 0 0 0 (pos 0) (pos 4000001) 0 0 0 0 0 (pos 0) 0 0 0)) gives 1
    ∷ test (row_outside (words_with 0 0 0 (pos 0) (negsuc 4000000) 0 0 0 0 0 (pos 0) 0 0 0)) gives 1
    ∷ test (row_outside (words_with 0 0 0 (pos 0) (pos 0) 4000001 0 0 0 0 (pos 0) 0 0 0)) gives 1
    ∷ test (row_outside (words_with 0 0 0 (pos 0) (pos 0) 0 4000001 0 0 0 (pos 0) 0 0 0)) gives 1
    ∷ test (row_outside (words_with 0 0 0 (pos 0) (pos 0) 0 0 4000001 0 0 (pos 0) 0 0 0)) gives 1
    ∷ test (row_outside (words_with 0 0 0 (pos 0) (pos 0) 0 0 4000001 4000001 0 (pos 0) 0 0 0)) gives 1
    ∷ test (row_outside (words_with 0 0 0 (pos 0) (pos 0) 0 0 5 5 0 (pos 0) 0 0 0)) gives 0
    ∷ test (row_outside (words_with 0 0 0 (pos 0) (pos 0) 0 0 5 6 0 (pos 0) 0 0 0)) gives 1
    ∷ test (row_outside (words_with 0 0 0 (pos 0) (pos 0) 0 0 0 0 2 (pos 0) 0 0 0)) gives 1
    ∷ test (row_outside (words_with 0 0 0 (pos 0) (pos 0) 0 0 0 0 0 (pos 1000001) 0 0 0)) gives 1
    ∷ test (row_outside (words_with 0 0 0 (pos 0) (pos 0) 0 0 0 0 0 (negsuc 1000000) 0 0 0)) gives 1
    ∷ []

-- a point of nothing
abbrev pub nothing : List Point
nothing = at (pos 0) 0 ∷ []

-- a file of five market schedules of one point
abbrev pub five_market : List ℕ
five_market = offering (replicate 5 (schedule 1 0 1)) nothing

-- ground 18, at a bound and beyond it
unfoldable pub schedule_ground_figures : List Figure
schedule_ground_figures =
    -- at most 4 schedules
    test (schedules_outside five_market (naming 0 4 0)) gives 0
    ∷ test (schedules_outside five_market (naming 0 5 0)) gives 1
    -- within the table, of which the first is free where there are none
    ∷ test (schedules_outside five_market (naming 2 3 0)) gives 0
    ∷ test (schedules_outside five_market (naming 3 3 0)) gives 1
    ∷ test (schedules_outside five_market (naming 4294967295 1 0)) gives 1
    ∷ test (schedules_outside five_market (naming 4294967295 0 0)) gives 0
    -- dispatched on one of the row's own, counted from 0, or 0 where there are none
    ∷ test (schedules_outside five_market (naming 3 2 1)) gives 0
    ∷ test (schedules_outside five_market (naming 3 2 2)) gives 1
    ∷ test (schedules_outside five_market (naming 3 2 4)) gives 1
    ∷ test (schedules_outside five_market (naming 0 0 1)) gives 1
    -- of kinds 1 to 3, each that the row names
    ∷ test (schedules_outside (offering (schedule 1 0 1 ∷ schedule 2 0 1 ∷ schedule 3 0 1 ∷ []) nothing) (naming 0 3 0))
    gives 0
    ∷ test (schedules_outside (offering (schedule 1 0 1 ∷ schedule 0 0 1 ∷ []) nothing) (naming 0 2 0)) gives 1
    ∷ test (schedules_outside (offering (schedule 1 0 1 ∷ schedule 4 0 1 ∷ []) nothing) (naming 0 2 0)) gives 1
    ∷ test (schedules_outside (offering (schedule 1 0 1 ∷ schedule 4 0 1 ∷ []) nothing) (naming 0 1 0)) gives 0
    -- a schedule without points is not refused here, nor is any row of format 1
    ∷ test (schedules_outside (offering (schedule 1 0 0 ∷ []) []) (naming 0 1 0)) gives 0
    ∷ test (schedules_outside (pointed []) (named 9 11)) gives 0
    ∷ []

-- ground 14, at a bound and beyond it
unfoldable pub point_ground_figures : List Figure
point_ground_figures =
    test (points_outside (pointed (replicate 10 (at (pos 1) 1))) (named 0 10)) gives 0
    ∷ test (points_outside (pointed (replicate 11 (at (pos 1) 1))) (named 0 11)) gives 1
    ∷ test (points_outside (pointed (replicate 3 (at (pos 1) 1))) (named 1 2)) gives 0
    ∷ test (points_outside (pointed (replicate 3 (at (pos 1) 1))) (named 2 2)) gives 1
    ∷ test (points_outside (pointed (replicate 3 (at (pos 1) 1))) (named 4294967295 1)) gives 1
    ∷ test (points_outside (pointed []) (named 4294967295 0)) gives 0
    ∷ test (points_outside (pointed (at (pos 1000000) 4000000 ∷ [])) (named 0 1)) gives 0
    ∷ test (points_outside (pointed (at (pos 1000001) 0 ∷ [])) (named 0 1)) gives 1
    ∷ test (points_outside (pointed (at (negsuc 999999) 0 ∷ [])) (named 0 1)) gives 0
    ∷ test (points_outside (pointed (at (negsuc 1000000) 0 ∷ [])) (named 0 1)) gives 1
    ∷ test (points_outside (pointed (at (pos 0) 4000001 ∷ [])) (named 0 1)) gives 1
    ∷ test (points_outside (pointed (at (negsuc 1) 2 ∷ at (negsuc 2) 2 ∷ [])) (named 0 2)) gives 1
    ∷ test (points_outside (pointed (at (negsuc 1) 2 ∷ at (negsuc 0) 1 ∷ [])) (named 0 2)) gives 1
    ∷ test (points_outside (pointed (at (negsuc 1) 2 ∷ at (negsuc 0) 3 ∷ at (pos 0) 2 ∷ [])) (named 0 3)) gives 1
    -- the points of each schedule that a row names, from 1 to 10; schedules that it does not name are free
    ∷ test (points_outside (offering (schedule 1 0 0 ∷ []) (replicate 3 (at (pos 1) 1))) (naming 0 1 0)) gives 1
    ∷ test (points_outside (offering (schedule 1 0 10 ∷ []) (replicate 11 (at (pos 1) 1))) (naming 0 1 0)) gives 0
    ∷ test (points_outside (offering (schedule 1 0 11 ∷ []) (replicate 11 (at (pos 1) 1))) (naming 0 1 0)) gives 1
    ∷ test (points_outside (offering (schedule 1 2 1 ∷ schedule 1 3 1 ∷ []) (replicate 3 (at (pos 1) 1))) (naming 0 1 0))
    gives 0
    ∷ test (points_outside (offering (schedule 1 2 1 ∷ schedule 1 3 1 ∷ []) (replicate 3 (at (pos 1) 1))) (naming 0 2 0))
    gives 1
    ∷ test (points_outside (offering (schedule 9 9999 77 ∷ schedule 1 0 1 ∷ []) (at (pos 1) 1 ∷ [])) (naming 1 1 0))
    gives 0
    -- schedules may share points, and nothing falls from one schedule to another
    ∷ test
    (points_outside (offering (schedule 1 0 2 ∷ schedule 3 1 1 ∷ []) (at (pos 5) 5 ∷ at (pos 6) 6 ∷ [])) (naming 0 2 0))
    gives 0
    ∷ test
    (points_outside (offering (schedule 1 0 1 ∷ schedule 3 1 1 ∷ []) (at (pos 5) 5 ∷ at (pos 4) 4 ∷ [])) (naming 0 2 0))
    gives 0
    ∷ test
    (points_outside (offering (schedule 1 0 1 ∷ schedule 3 0 2 ∷ []) (at (pos 5) 5 ∷ at (pos 4) 4 ∷ [])) (naming 0 2 0))
    gives 1
    ∷ []

-- 13 of any row comes before 18 of any, and that before 14; two rows may share a schedule
unfoldable pub order_figures : List Figure
order_figures =
    answered (row_grounds (two_rows 0 0 0 1)) gives 0
    ∷ answered (row_grounds (two_rows 1 6 0 0)) gives 13
    ∷ answered (row_grounds (two_rows 0 0 1 0)) gives 18
    ∷ answered (row_grounds (two_rows 0 0 0 0)) gives 14
    ∷ []

-- all figures of grounds that a block or a file alone decides
pub record ReadingGroundFigures : Type 0 where
  pub block : AllAsStated block_ground_figures
  pub year : AllAsStated year_figures
  pub file : AllAsStated file_ground_figures
  pub tables : AllAsStated table_figures
  pub row : AllAsStated row_ground_figures
  pub schedules : AllAsStated schedule_ground_figures
  pub points : AllAsStated point_ground_figures
  pub order : AllAsStated order_figures
