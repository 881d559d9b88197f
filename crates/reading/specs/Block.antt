-- The opening block: its layout, and grounds 1, 2, 23, 3 and 4.
use Rattle.std.specs.Prelude.{ℕ, ◌*◌, List, Bool, cond, not, ◌||◌, ◌&&◌, length, drop, eqb}
use Rattle.words.specs.Lists.{any, rises}
use Rattle.words.specs.Words.{word32, entries}
use Rattle.words.specs.Grounds.{outside, lies_from}
use Rattle.reading.specs.Formats.{Sizes, not_of_formats}

-- word 0 of a block that names no year
abbrev pub yearless_format : ℕ
yearless_format = 1

-- word 0 of a block that names the year, in a sixth word
abbrev pub dated_format : ℕ
dated_format = 2

-- bytes of a block of a format before its ids may begin: five words, or six
unfoldable pub block_header_bytes : ℕ → ℕ
block_header_bytes format = cond (eqb format yearless_format) 20 24

-- bytes of the longest opening block
abbrev pub most_block_bytes : ℕ
most_block_bytes = 4096

-- the sizes of a block of a format
unfoldable pub block_sizes : ℕ → Sizes
block_sizes format = record { least = block_header_bytes format; most = most_block_bytes }

-- the highest Net CONE, in cents per MW-day
abbrev pub most_net_cone : ℕ
most_net_cone = 200000

-- days of a delivery year without a 29 February
abbrev pub common_year : ℕ
common_year = 365

-- days of a delivery year with a 29 February
abbrev pub leap_year : ℕ
leap_year = 366

-- the most ids of a block, and so accounts of a ledger
abbrev pub most_ids : ℕ
most_ids = 512

-- bytes of an id
abbrev pub id_bytes : ℕ
id_bytes = 4

-- the delivery year that started in 2016, which has divisors of its own
abbrev pub transition_year : ℕ
transition_year = 2016

-- the first delivery year after those of transition
abbrev pub first_year : ℕ
first_year = 2018

-- the last delivery year that a block may name
abbrev pub last_year : ℕ
last_year = 2023

-- the terms of a delivery year: Net CONE in cents per MW-day, days, and the calendar year in which it starts,
-- 0 where none is named
pub record Terms : Type 0 where
  pub net_cone : ℕ
  pub days : ℕ
  pub year : ℕ

-- the words of an opening block; the offset is in bytes
pub record BlockWords : Type 0 where
  pub format : ℕ
  pub terms : Terms
  pub id_count : ℕ
  pub ids_offset : ℕ

-- the year that a block names: word 5 of format 2, and 0 in format 1, which names none
unfoldable pub year_named : List ℕ → ℕ
year_named b = cond (eqb (word32 b 0) yearless_format) 0 (word32 b 5)

-- the words that a block begins with
unfoldable pub block_words : List ℕ → BlockWords
block_words b = record {
  format = word32 b 0;
  terms = record { net_cone = word32 b 1; days = word32 b 2; year = year_named b };
  id_count = word32 b 3;
  ids_offset = word32 b 4;
}

-- an opening block: the terms of a year, and its ids
pub record Block : Type 0 where
  pub terms : Terms
  pub ids : List ℕ

-- the opening block that bytes hold
unfoldable pub block_of : List ℕ → Block
block_of b =
    let w = block_words b in
    record { terms = w.terms; ids = entries id_bytes (λ id. word32 id 0) w.id_count (drop w.ids_offset b) }

-- ground 1: the block's length, or its format
unfoldable pub not_a_block : List ℕ → Bool
not_a_block b = not_of_formats (block_sizes yearless_format) (block_sizes dated_format) b

-- ground 2: Net CONE, or the days
unfoldable pub terms_outside : Terms → Bool
terms_outside t = outside 1 most_net_cone t.net_cone || not (eqb t.days common_year || eqb t.days leap_year)

-- a year that no block may name: any but 2016, of 365 days, and 2018 to 2023
unfoldable pub year_outside : Terms → Bool
year_outside t =
    cond (eqb t.year transition_year) (not (eqb t.days common_year)) (outside first_year last_year t.year)

-- ground 23: in format 2, a year that no block may name
unfoldable pub year_unknown : BlockWords → Bool
year_unknown w = not (eqb w.format yearless_format) && year_outside w.terms

-- ground 3: the number of the ids, or their place
unfoldable pub ids_misplaced : List ℕ → Bool
ids_misplaced b =
    let w = block_words b in
    outside 1 most_ids w.id_count
    || not (lies_from (block_header_bytes w.format) (length b) w.ids_offset (id_bytes * w.id_count))

-- ground 4: an id of 0, or ids that do not rise strictly
unfoldable pub ids_out_of_order : List ℕ → Bool
ids_out_of_order ids = any (λ id. eqb id 0) ids || not (rises ids)
