-- The interval file: its layout in both formats, and the grounds that need the file alone (7, 9, 11, 13, 18, 14).
use Rattle.std.specs.Prelude.{ℕ, ◌+◌, ◌-◌, ◌*◌, List, [], ◌∷◌, map, Bool, false, cond, not, ◌||◌, ◌&&◌, length, drop, get_or, ℤ, ltb, leb, eqb}
use Rattle.std.specs.Int.Signed.{lt_z}
use Rattle.words.specs.Lists.{any}
use Rattle.words.specs.Words.{word32, signed, entries}
use Rattle.words.specs.Grounds.{outside, beyond, lies_from, overlap}
use Rattle.reading.specs.Formats.{Sizes, not_of_formats}

-- word 0 of a file whose rows name points
abbrev pub curves_format : ℕ
curves_format = 1

-- word 0 of a file whose rows name schedules
abbrev pub schedules_format : ℕ
schedules_format = 2

-- what holds in format 1, or else what holds in format 2
abbrev pub by_format : {A : Type 0} → ℕ → A → A → A
by_format format one two = cond (eqb format curves_format) one two

-- bytes of the longest file
abbrev pub most_file_bytes : ℕ
most_file_bytes = 61440

-- the sizes in which the formats differ: bytes of the header, of a row, and of the longest file
pub record Layout : Type 0 where
  pub header_bytes : ℕ
  pub row_bytes : ℕ
  pub most_bytes : ℕ

-- by the format word: a header of 10 words and rows of 14, or of 12 and 15
unfoldable pub layout_of : ℕ → Layout
layout_of format =
    by_format format
    (record { header_bytes = 40; row_bytes = 56; most_bytes = 49152 })
    (record { header_bytes = 48; row_bytes = 60; most_bytes = most_file_bytes })

-- bytes of a schedule of 3 words
abbrev pub schedule_bytes : ℕ
schedule_bytes = 12

-- bytes of a point of 2 words
abbrev pub point_bytes : ℕ
point_bytes = 8

-- intervals of five minutes in a day
abbrev pub intervals_per_day : ℕ
intervals_per_day = 288

-- the most net imports, in kW, in or out
abbrev pub most_imports : ℕ
most_imports = 40000000

-- the most rows of a file
abbrev pub most_rows : ℕ
most_rows = 512

-- the most points of a file
abbrev pub most_points : ℕ
most_points = 2048

-- the most schedules of a file
abbrev pub most_schedules : ℕ
most_schedules = 1024

-- the most schedules of a row
abbrev pub most_row_schedules : ℕ
most_row_schedules = 4

-- the most points of a schedule
abbrev pub most_curve_points : ℕ
most_curve_points = 10

-- kind of a market schedule
abbrev pub market : ℕ
market = 1

-- kind of a price-based PLS schedule
abbrev pub price_based : ℕ
price_based = 2

-- kind of a cost schedule
abbrev pub cost : ℕ
cost = 3

-- the highest kind word
abbrev pub last_kind : ℕ
last_kind = 5

-- the most kW of any word of a row or a point
abbrev pub most_kilowatts : ℕ
most_kilowatts = 4000000

-- the highest LMP or price, in cents per MWh, above or below 0
abbrev pub most_price : ℕ
most_price = 1000000

-- the header's words; offsets are in bytes
pub record Header : Type 0 where
  pub format : ℕ
  pub interval : ℕ
  pub net_cone : ℕ
  pub days : ℕ
  pub region_wide : ℕ
  pub imports : ℤ
  pub row_count : ℕ
  pub rows_offset : ℕ
  pub point_count : ℕ
  pub points_offset : ℕ
  pub schedule_count : ℕ
  pub schedules_offset : ℕ

-- the header that a file begins with; in format 1 the table of schedules is an empty one at the header's end
unfoldable pub header_of : List ℕ → Header
header_of f = record {
  format = word32 f 0;
  interval = word32 f 1;
  net_cone = word32 f 2;
  days = word32 f 3;
  region_wide = word32 f 4;
  imports = signed (word32 f 5);
  row_count = word32 f 6;
  rows_offset = word32 f 7;
  point_count = word32 f 8;
  points_offset = word32 f 9;
  schedule_count = by_format (word32 f 0) 0 (word32 f 10);
  schedules_offset = by_format (word32 f 0) 40 (word32 f 11);
}

-- the sizes of a file, by its format
abbrev pub file_layout : List ℕ → Layout
file_layout f = layout_of (header_of f).format

-- a point: price in cents per MWh, and kW
pub record Point : Type 0 where
  pub price : ℤ
  pub kw : ℕ

-- the point at the front of b
unfoldable pub point_of : List ℕ → Point
point_of b = record { price = signed (word32 b 0); kw = word32 b 1 }

-- point j of those that b begins with
unfoldable pub point_at : List ℕ → ℕ → Point
point_at b j = point_of (drop (point_bytes * j) b)

-- the words of a row in document 01's order, words 2 to 9 in kW and the LMP in cents per MWh; the last three name its
-- points, or in format 2 its schedules and which of these it was dispatched on
pub record RowWords : Type 0 where
  pub id : ℕ
  pub kind : ℕ
  pub committed : ℕ
  pub owned : ℕ
  pub metered : ℤ
  pub adjustment : ℤ
  pub planned : ℕ
  pub forced : ℕ
  pub maximum : ℕ
  pub minimum : ℕ
  pub online : ℕ
  pub lmp : ℤ
  pub first : ℕ
  pub count : ℕ
  pub dispatched : ℕ

-- the words of the row at the front of b, by the format
unfoldable pub row_words : ℕ → List ℕ → RowWords
row_words format b = record {
  id = word32 b 0;
  kind = word32 b 1;
  committed = word32 b 2;
  owned = word32 b 3;
  metered = signed (word32 b 4);
  adjustment = signed (word32 b 5);
  planned = word32 b 6;
  forced = word32 b 7;
  maximum = word32 b 8;
  minimum = word32 b 9;
  online = word32 b 10;
  lmp = signed (word32 b 11);
  first = word32 b 12;
  count = word32 b 13;
  dispatched = by_format format 0 (word32 b 14);
}

-- the words of row i of a file
unfoldable pub row_words_at : List ℕ → ℕ → RowWords
row_words_at f i = row_words (header_of f).format (drop ((header_of f).rows_offset + (file_layout f).row_bytes * i) f)

-- the words of a file's rows, in its order
unfoldable pub row_words_of : List ℕ → List RowWords
row_words_of f =
    let h = header_of f in
    entries (file_layout f).row_bytes (row_words h.format) h.row_count (drop h.rows_offset f)

-- the words of a schedule: its kind, first point and number of points
pub record ScheduleWords : Type 0 where
  pub kind : ℕ
  pub first : ℕ
  pub count : ℕ

-- the words of the schedule at the front of b
unfoldable pub schedule_words : List ℕ → ScheduleWords
schedule_words b = record { kind = word32 b 0; first = word32 b 1; count = word32 b 2 }

-- so many schedules of a file's table, from one of them on
unfoldable pub table_schedules : List ℕ → ℕ → ℕ → List ScheduleWords
table_schedules f first count =
    entries schedule_bytes schedule_words count (drop ((header_of f).schedules_offset + schedule_bytes * first) f)

-- the points of a row of format 1, if it has any, are one market schedule
unfoldable pub as_schedule : RowWords → List ScheduleWords
as_schedule w = cond (eqb w.count 0) [] (record { kind = market; first = w.first; count = w.count } ∷ [])

-- the schedules that a row of a file names
unfoldable pub schedules_named : List ℕ → RowWords → List ScheduleWords
schedules_named f w = by_format (header_of f).format (as_schedule w) (table_schedules f w.first w.count)

-- no schedule: one without points
abbrev pub no_schedule : ScheduleWords
no_schedule = record { kind = 0; first = 0; count = 0 }

-- schedule k of those that a row names, counted from 0; none beyond them
unfoldable pub schedule_at : List ℕ → RowWords → ℕ → ScheduleWords
schedule_at f w k = get_or (schedules_named f w) k no_schedule

-- a schedule's points: the stretch of the file that starts at the first of them
unfoldable pub curve_part : List ℕ → ScheduleWords → List ℕ
curve_part f s = drop ((header_of f).points_offset + point_bytes * s.first) f

-- the points that so many entries of a stretch hold
unfoldable pub points_in : ℕ → List ℕ → List Point
points_in n b = entries point_bytes point_of n b

-- a schedule's curve
unfoldable pub curve_of : List ℕ → ScheduleWords → List Point
curve_of f s = points_in s.count (curve_part f s)

-- a schedule, as the rules speak of it: its kind and its curve
pub record Schedule : Type 0 where
  pub kind : ℕ
  pub curve : List Point

-- the schedule of a file that has these words
unfoldable pub schedule_of : List ℕ → ScheduleWords → Schedule
schedule_of f s = record { kind = s.kind; curve = curve_of f s }

-- a row, as the rules speak of it: words 0 to 11, its schedules, and which of them it was dispatched on, counted from 0
pub record Row : Type 0 where
  pub id : ℕ
  pub kind : ℕ
  pub committed : ℕ
  pub owned : ℕ
  pub metered : ℤ
  pub adjustment : ℤ
  pub planned : ℕ
  pub forced : ℕ
  pub maximum : ℕ
  pub minimum : ℕ
  pub online : ℕ
  pub lmp : ℤ
  pub schedules : List Schedule
  pub dispatched : ℕ

-- the row of these words and schedules
unfoldable pub row_with : RowWords → List Schedule → Row
row_with w schedules = record {
  id = w.id;
  kind = w.kind;
  committed = w.committed;
  owned = w.owned;
  metered = w.metered;
  adjustment = w.adjustment;
  planned = w.planned;
  forced = w.forced;
  maximum = w.maximum;
  minimum = w.minimum;
  online = w.online;
  lmp = w.lmp;
  schedules = schedules;
  dispatched = w.dispatched;
}

-- the row of a file that has these words
unfoldable pub row_of : List ℕ → RowWords → Row
row_of f w = row_with w (map (schedule_of f) (schedules_named f w))

-- the rows of a file, in its order
unfoldable pub rows_of : List ℕ → List Row
rows_of f = map (row_of f) (row_words_of f)

-- what a kind word says; a word above 5 is of no kind, and ground 13 refuses it
pub data Kind : Type 0 where
  generation : Kind
  demand : Kind
  efficiency : Kind
  responsive : Kind
  energy_only : Kind
  importer : Kind
  no_kind : Kind

-- by the word: 0 generation or storage, 1 demand resource, 2 energy efficiency, 3 price responsive demand (PRD),
-- 4 energy-only, 5 importer
unfoldable pub kind_of : ℕ → Kind
kind_of k =
    cond (eqb k 0) generation
    (cond (eqb k 1) demand
    (cond (eqb k 2) efficiency
    (cond (eqb k 3) responsive
    (cond (eqb k 4) energy_only
    (cond (eqb k 5) importer
    no_kind)))))

-- the least and the most bytes of a file of a format
unfoldable pub file_sizes : ℕ → Sizes
file_sizes format = record { least = (layout_of format).header_bytes; most = (layout_of format).most_bytes }

-- ground 7: the file's length, or its format
unfoldable pub not_a_file : List ℕ → Bool
not_a_file f = not_of_formats (file_sizes curves_format) (file_sizes schedules_format) f

-- ground 9: the interval, region-wide or the imports
unfoldable pub header_outside : Header → Bool
header_outside h =
    leb (intervals_per_day * h.days) h.interval || ltb 1 h.region_wide || beyond most_imports h.imports

-- a table of a file: its byte offset, and its bytes
pub record Table : Type 0 where
  pub at : ℕ
  pub bytes : ℕ

-- whether a table does not lie wholly from one byte to another
unfoldable pub leaves : ℕ → ℕ → Table → Bool
leaves from end t = not (lies_from from end t.at t.bytes)

-- whether two tables, neither of them empty, share a byte
unfoldable pub meet : Table → Table → Bool
meet s t = overlap s.at s.bytes t.at t.bytes

-- whether one of three tables leaves the bytes from one to another, or two of them share a byte
unfoldable pub places_outside : ℕ → ℕ → Table → Table → Table → Bool
places_outside from end rows points schedules =
    any (leaves from end) (rows ∷ points ∷ schedules ∷ [])
    || meet rows points || meet rows schedules || meet points schedules

-- ground 11: the numbers of rows, points and schedules, or the place of their tables, from the header's end on
unfoldable pub tables_misplaced : List ℕ → Bool
tables_misplaced f =
    let h = header_of f in
    outside 1 most_rows h.row_count || ltb most_points h.point_count || ltb most_schedules h.schedule_count
    || places_outside (file_layout f).header_bytes (length f)
    (record { at = h.rows_offset; bytes = (file_layout f).row_bytes * h.row_count })
    (record { at = h.points_offset; bytes = point_bytes * h.point_count })
    (record { at = h.schedules_offset; bytes = schedule_bytes * h.schedule_count })

-- ground 13, of one row: its kind, words 2, 3, 6, 7, 8 and 9, words 4 and 5, minimum and maximum, online, LMP,
-- and kind 4 or 5 with a commitment
unfoldable pub row_outside : RowWords → Bool
row_outside w =
    ltb last_kind w.kind
    || any (ltb most_kilowatts) (w.committed ∷ w.owned ∷ w.planned ∷ w.forced ∷ w.maximum ∷ w.minimum ∷ [])
    || beyond most_kilowatts w.metered || beyond most_kilowatts w.adjustment
    || ltb w.maximum w.minimum || ltb 1 w.online || beyond most_price w.lmp
    || ((eqb w.kind 4 || eqb w.kind 5) && ltb 0 w.committed)

-- a row's schedules reach beyond the table; in format 1 it has none there, and word 12 is free where there are none
unfoldable pub schedules_beyond : Header → RowWords → Bool
schedules_beyond h w = by_format h.format false (ltb 0 w.count && ltb h.schedule_count (w.first + w.count))

-- a schedule's kind is none of 1 market, 2 price-based PLS, 3 cost
unfoldable pub kind_outside : ScheduleWords → Bool
kind_outside s = outside market cost s.kind

-- ground 18, of one row of a file: the place, number or kinds of its schedules, or the one dispatched on,
-- if not 0 and not below their number
unfoldable pub schedules_outside : List ℕ → RowWords → Bool
schedules_outside f w =
    let named = schedules_named f w in
    schedules_beyond (header_of f) w || ltb most_row_schedules (length named) || any kind_outside named
    || (ltb 0 w.dispatched && leb (length named) w.dispatched)

-- a point's price or kW is out of range
unfoldable pub point_outside : Point → Bool
point_outside p = beyond most_price p.price || ltb most_kilowatts p.kw

-- a price or kW falls on the points after p
unfoldable pub falls_after : Point → List Point → Bool
falls_after p [] = false
falls_after p (q ∷ qs) = lt_z q.price p.price || ltb q.kw p.kw || falls_after q qs

-- a price or kW falls
unfoldable pub falls : List Point → Bool
falls [] = false
falls (p ∷ ps) = falls_after p ps

-- a schedule has too few or too many points, or points beyond a table of so many
unfoldable pub curve_misplaced : ℕ → ScheduleWords → Bool
curve_misplaced points s = outside 1 most_curve_points s.count || ltb points (s.first + s.count)

-- the number or the place of a schedule's points, or the points themselves
unfoldable pub curve_outside : List ℕ → ScheduleWords → Bool
curve_outside f s = curve_misplaced (header_of f).point_count s || any point_outside (curve_of f s) || falls (curve_of f s)

-- ground 14, of one row of a file: the points of a schedule that it names
unfoldable pub points_outside : List ℕ → RowWords → Bool
points_outside f w = any (curve_outside f) (schedules_named f w)

-- grounds 13, 18 and 14, in checking order: all rows are tested for one before any for the next
unfoldable pub row_grounds : List ℕ → List (Bool × ℕ)
row_grounds f =
    (any row_outside (row_words_of f), 13)
    ∷ (any (schedules_outside f) (row_words_of f), 18)
    ∷ (any (points_outside f) (row_words_of f), 14)
    ∷ []

-- point j is out of range, or falls from the one before it
abbrev pub point_refused : List ℕ → ℕ → Bool
point_refused b j = point_outside (point_at b j) || (ltb 0 j && falls (point_at b (j - 1) ∷ point_at b j ∷ []))
