-- The room that each piece of a listing takes in a buffer, and the most blocks, of which no sentence of document 01
-- speaks.
use Rattle.std.specs.Prelude.{ℕ, ◌+◌, ◌*◌}
use Rattle.reading.specs.Interval.{most_rows}
use Rattle.listing.specs.Lines.{most_digits}

-- the heading
abbrev pub heading_room : ℕ
heading_room = 74

-- a number, and the comma or newline after it
abbrev pub field_room : ℕ
field_room = most_digits + 1

-- a refusal: "refused," and two numbers
abbrev pub refused_room : ℕ
refused_room = 8 + 2 * field_room

-- a cut: "cut," and a number
abbrev pub cut_room : ℕ
cut_room = 4 + field_room

-- the line of a row: ten numbers
abbrev pub row_room : ℕ
row_room = 10 * field_room

-- a pool line: "pool," and five numbers
abbrev pub pool_room : ℕ
pool_room = 5 + 5 * field_room

-- a year line: "year," and six numbers
abbrev pub year_room : ℕ
year_room = 5 + 6 * field_room

-- a block: the lines of the most rows, and the pool line
abbrev pub block_room : ℕ
block_room = most_rows * row_room + pool_room

-- a loop that is proved has to end: no stream has so many blocks
abbrev pub most_blocks : ℕ
most_blocks = 1099511627776
