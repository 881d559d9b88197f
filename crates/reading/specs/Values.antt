-- What the values of the code say, as the records that the definitions speak of;
-- and what is known of them once grounds are ruled out.
use Rattle.std.specs.Prelude.{ℕ, ◌+◌, ◌*◌, ◌≤◌, ◌<◌, ◌≡◌, List, false, length}
use Rattle.words.specs.Lists.{any}
use Rattle.reading.specs.Block.{block_header_bytes, most_ids, id_bytes, Terms, BlockWords, block_words}
use Rattle.reading.specs.Formats.{Sizes}
use Rattle.reading.specs.Interval.{
  Layout,
  layout_of,
  point_bytes,
  schedule_bytes,
  most_rows,
  most_points,
  most_schedules,
  Table,
  Header,
  header_of,
  Point,
  RowWords,
  row_words_of,
  ScheduleWords,
  schedules_named,
  schedule_at,
  row_outside,
  schedules_outside,
  curve_outside,
  points_outside,
}
use Rattle.reading.specs.declared.block.Terms.{Terms as TermsValue}
use Rattle.reading.specs.declared.block.Block.{Block as BlockValue}
use Rattle.reading.specs.declared.spans.Span.{Span as SpanValue}
use Rattle.reading.specs.declared.header.Layout.{Layout as LayoutValue}
use Rattle.reading.specs.declared.header.Header.{Header as HeaderValue}
use Rattle.reading.specs.declared.spans.Sizes.{Sizes as SizesValue}
use Rattle.reading.specs.declared.rows.Row.{Row as RowValue}
use Rattle.reading.specs.declared.rows.Schedule.{Schedule as ScheduleValue}
use Rattle.reading.specs.declared.rows.Point.{Point as PointValue}

-- the sizes that a value says
unfoldable pub sizes_in : SizesValue → Sizes
sizes_in s = record { least = s.least; most = s.most }

-- the terms that a value says
unfoldable pub terms_in : TermsValue → Terms
terms_in t = record { net_cone = t.net_cone; days = t.days; year = t.year }

-- the words of an opening block that a value says
unfoldable pub block_in : BlockValue → BlockWords
block_in b = record { format = b.format; terms = terms_in b.terms; id_count = b.ids; ids_offset = b.ids_at }

-- the table that a value says
unfoldable pub table_in : SpanValue → Table
table_in s = record { at = s.at; bytes = s.bytes }

-- the sizes that a value says
unfoldable pub layout_in : LayoutValue → Layout
layout_in l = record { header_bytes = l.header_bytes; row_bytes = l.row_bytes; most_bytes = l.most_bytes }

-- the header that a value says
unfoldable pub header_in : HeaderValue → Header
header_in h = record {
  format = h.format;
  interval = h.interval;
  net_cone = h.net_cone;
  days = h.days;
  region_wide = h.region_wide;
  imports = h.imports;
  row_count = h.rows;
  rows_offset = h.rows_at;
  point_count = h.points;
  points_offset = h.points_at;
  schedule_count = h.schedules;
  schedules_offset = h.schedules_at;
}

-- the words of a row that a value says
unfoldable pub row_in : RowValue → RowWords
row_in r = record {
  id = r.id;
  kind = r.kind;
  committed = r.committed;
  owned = r.owned;
  metered = r.metered;
  adjustment = r.adjustment;
  planned = r.planned;
  forced = r.forced;
  maximum = r.maximum;
  minimum = r.minimum;
  online = r.online;
  lmp = r.lmp;
  first = r.first;
  count = r.count;
  dispatched = r.dispatched;
}

-- the words of a schedule that a value says
unfoldable pub schedule_in : ScheduleValue → ScheduleWords
schedule_in s = record { kind = s.kind; first = s.first; count = s.points }

-- the point that a value says
unfoldable pub point_in : PointValue → Point
point_in p = record { price = p.price; kw = p.kw }

-- a value read from a block that ground 1 does not refuse
pub record BlockRead (block : List ℕ) (b : BlockValue) : Type 0 where
  pub long : block_header_bytes b.format ≤ length block
  pub says : block_in b ≡ block_words block

-- and ground 3 does not refuse it: its ids lie within the block
pub record Listed (block : List ℕ) (b : BlockValue) : Type 0 where
  pub read : BlockRead block b
  pub few : b.ids ≤ most_ids
  pub ids_lie : b.ids_at + id_bytes * b.ids ≤ length block

-- a header read from a file that ground 7 does not refuse
pub record HeaderRead (file : List ℕ) (h : HeaderValue) : Type 0 where
  pub long : (layout_of h.format).header_bytes ≤ length file
  pub says : header_in h ≡ header_of file

-- and ground 11 does not refuse it: its tables lie within the file
pub record Tabled (file : List ℕ) (h : HeaderValue) : Type 0 where
  pub read : HeaderRead file h
  pub rows_few : h.rows ≤ most_rows
  pub points_few : h.points ≤ most_points
  pub schedules_few : h.schedules ≤ most_schedules
  pub rows_lie : h.rows_at + (layout_of h.format).row_bytes * h.rows ≤ length file
  pub points_lie : h.points_at + point_bytes * h.points ≤ length file
  pub schedules_lie : h.schedules_at + schedule_bytes * h.schedules ≤ length file

-- a row that grounds 13, 18 and 14 do not refuse
pub record Sound (file : List ℕ) (w : RowWords) : Type 0 where
  pub in_range : row_outside w ≡ false
  pub schedules : schedules_outside file w ≡ false
  pub points : points_outside file w ≡ false

-- the schedule that a row of a file was dispatched on, which is one of its own
pub record Dispatched (file : List ℕ) (w : RowWords) (s : ScheduleValue) : Type 0 where
  pub among : w.dispatched < length (schedules_named file w)
  pub says : schedule_in s ≡ schedule_at file w w.dispatched

-- a schedule whose points ground 14 does not refuse
pub record SoundCurve (file : List ℕ) (s : ScheduleWords) : Type 0 where
  pub points : curve_outside file s ≡ false

-- a file whose rows grounds 13, 18 and 14 do not refuse
pub record Scanned (file : List ℕ) : Type 0 where
  pub in_range : any row_outside (row_words_of file) ≡ false
  pub schedules : any (schedules_outside file) (row_words_of file) ≡ false
  pub points : any (points_outside file) (row_words_of file) ≡ false
