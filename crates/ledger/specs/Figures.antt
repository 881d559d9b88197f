-- Worked figures of opening and of ground 6.
use Rattle.std.specs.Prelude.{ℕ, ◌/◌, ◌≡◌, List, [], ◌∷◌, ◌++◌, length, replicate, drop}
use Rattle.words.specs.Words.{bytes_of_words}
use Rattle.words.specs.Figures.{Figure, ◌gives◌, test, AllAsStated}
use Rattle.ledger.specs.Ledger.{not_a_ledger}
use Rattle.ledger.specs.Opening.{opening}

-- a buffer of so many bytes, each 255
abbrev pub buffer : ℕ → List ℕ
buffer n = replicate n 255

-- an opening block of format 1: Net CONE, days, ids
unfoldable pub block_with : ℕ → ℕ → List ℕ → List ℕ
block_with net_cone days ids = bytes_of_words 4 (1 ∷ net_cone ∷ days ∷ length ids ∷ 20 ∷ ids)

-- an opening block of format 2: Net CONE, days, year, ids
unfoldable pub dated_with : ℕ → ℕ → ℕ → List ℕ → List ℕ
dated_with net_cone days year ids = bytes_of_words 4 (2 ∷ net_cone ∷ days ∷ length ids ∷ 24 ∷ year ∷ ids)

-- the listing's opening block
unfoldable pub listing_block : List ℕ
listing_block = block_with 30000 365 (11 ∷ 12 ∷ 13 ∷ 14 ∷ [])

-- the ledger after opening, in a buffer eight bytes longer than it need be
unfoldable pub opened_listing : List ℕ
opened_listing =
    bytes_of_words 8 (
    1 ∷ 30000 ∷ 365 ∷ 0 ∷ 0 ∷ 4 ∷ 8 ∷ 0
    ∷ 11 ∷ 0 ∷ 0 ∷ 0
    ∷ 12 ∷ 0 ∷ 0 ∷ 0
    ∷ 13 ∷ 0 ∷ 0 ∷ 0
    ∷ 14 ∷ 0 ∷ 0 ∷ 0
    ∷ []
    ) ++ buffer 8

-- the ledger of a block of 2016 with one id, in a buffer of just its bytes
unfoldable pub opened2016 : List ℕ
opened2016 = bytes_of_words 8 (1 ∷ 30000 ∷ 365 ∷ 0 ∷ 0 ∷ 1 ∷ 8 ∷ 2016 ∷ 11 ∷ 0 ∷ 0 ∷ 0 ∷ [])

-- the answer of opening a ledger buffer of so many bytes
unfoldable pub opens : List ℕ → ℕ → ℕ
opens block bytes = (opening block (buffer bytes)).refusal

-- grounds of opening: a block or buffer at a bound, and one beyond it
unfoldable pub opening_figures : List Figure
opening_figures =
    opens listing_block 192 gives 0
    ∷ opens (drop 1 listing_block) 192 gives 1
    ∷ opens (buffer 19) 192 gives 1
    ∷ opens (block_with 30000 365 (11 ∷ [])) 96 gives 0
    ∷ opens (bytes_of_words 4 (1 ∷ 30000 ∷ 365 ∷ 0 ∷ 20 ∷ [])) 96 gives 3
    ∷ opens (block_with 30000 365 (11 ∷ []) ++ buffer 4072) 96 gives 0
    ∷ opens (block_with 30000 365 (11 ∷ []) ++ buffer 4073) 96 gives 1
    ∷ opens (bytes_of_words 4 (3 ∷ 30000 ∷ 365 ∷ 1 ∷ 20 ∷ 11 ∷ [])) 96 gives 1
    ∷ opens (block_with 0 365 (11 ∷ [])) 96 gives 2
    ∷ opens (block_with 1 366 (11 ∷ [])) 96 gives 0
    ∷ opens (block_with 200000 365 (11 ∷ [])) 96 gives 0
    ∷ opens (block_with 200001 365 (11 ∷ [])) 96 gives 2
    ∷ opens (block_with 30000 364 (11 ∷ [])) 96 gives 2
    ∷ opens (block_with 30000 367 (11 ∷ [])) 96 gives 2
    ∷ opens (bytes_of_words 4 (1 ∷ 30000 ∷ 365 ∷ 513 ∷ 20 ∷ [])) 96 gives 3
    ∷ opens (bytes_of_words 4 (1 ∷ 30000 ∷ 365 ∷ 1 ∷ 19 ∷ 11 ∷ [])) 96 gives 3
    ∷ opens (bytes_of_words 4 (1 ∷ 30000 ∷ 365 ∷ 1 ∷ 21 ∷ 11 ∷ [])) 96 gives 3
    ∷ opens (bytes_of_words 4 (1 ∷ 30000 ∷ 365 ∷ 1 ∷ 4294967295 ∷ 11 ∷ [])) 96 gives 3
    ∷ opens (block_with 30000 365 (0 ∷ 11 ∷ [])) 128 gives 4
    ∷ opens (block_with 30000 365 (11 ∷ 11 ∷ [])) 128 gives 4
    ∷ opens (block_with 30000 365 (11 ∷ 12 ∷ [])) 128 gives 0
    ∷ opens (block_with 30000 365 (11 ∷ 12 ∷ [])) 127 gives 5
    -- format 2: its years, its ids from byte 24 on, its room
    ∷ opens (dated_with 30000 365 2016 (11 ∷ [])) 96 gives 0
    ∷ opens (dated_with 30000 366 2016 (11 ∷ [])) 96 gives 23
    ∷ opens (dated_with 30000 365 2017 (11 ∷ [])) 96 gives 23
    ∷ opens (dated_with 30000 366 2018 (11 ∷ [])) 96 gives 0
    ∷ opens (dated_with 30000 365 2024 (11 ∷ [])) 96 gives 23
    ∷ opens (dated_with 30000 365 0 (11 ∷ [])) 96 gives 23
    ∷ opens (bytes_of_words 4 (2 ∷ 30000 ∷ 365 ∷ 1 ∷ 20 ∷ 2016 ∷ [])) 96 gives 3
    ∷ opens (dated_with 30000 365 2016 (11 ∷ [])) 95 gives 5
    ∷ []

-- checking order: each call here has two faults of neighbouring grounds, and the first is answered
unfoldable pub opening_order : List Figure
opening_order =
    opens (bytes_of_words 4 (3 ∷ 0 ∷ 365 ∷ 1 ∷ 20 ∷ 11 ∷ [])) 96 gives 1
    ∷ opens (block_with 0 365 []) 96 gives 2
    ∷ opens (bytes_of_words 4 (1 ∷ 30000 ∷ 365 ∷ 2 ∷ 21 ∷ 11 ∷ 11 ∷ [])) 128 gives 3
    ∷ opens (block_with 30000 365 (11 ∷ 11 ∷ [])) 127 gives 4
    ∷ opens (dated_with 0 365 2017 (11 ∷ [])) 96 gives 2
    ∷ opens (dated_with 30000 365 2017 []) 96 gives 23
    ∷ []

-- a ledger at Net CONE 200000 and 366 days: its words 0, 3, 4, 6 and 7, and the accounts' words
unfoldable pub ledger_with : ℕ → ℕ → ℕ → ℕ → ℕ → List ℕ → List ℕ
ledger_with format earliest carried offset last accounts =
    bytes_of_words 8 (format ∷ 200000 ∷ 366 ∷ earliest ∷ carried ∷ (length accounts / 4) ∷ offset ∷ last ∷ accounts)

-- a ledger of so many days and a year, with one account: its largest commitment, and as much charged as is carried
unfoldable pub ledger_of_year : ℕ → ℕ → ℕ → ℕ → List ℕ
ledger_of_year days year largest charged =
    bytes_of_words 8 (1 ∷ 30000 ∷ days ∷ 7 ∷ charged ∷ 1 ∷ 8 ∷ year ∷ 1 ∷ largest ∷ charged ∷ 0 ∷ [])

-- whether a buffer is refused on ground 6
unfoldable pub refused_on6 : List ℕ → ℕ
refused_on6 ledger = test (not_a_ledger ledger)

-- ground 6, word by word
unfoldable pub ledger_figures : List Figure
ledger_figures =
    refused_on6 (ledger_with 1 7 0 8 0 (1 ∷ 0 ∷ 0 ∷ 0 ∷ 2 ∷ 0 ∷ 0 ∷ 0 ∷ [])) gives 0
    ∷ refused_on6 (ledger_with 2 7 0 8 0 (1 ∷ 0 ∷ 0 ∷ 0 ∷ 2 ∷ 0 ∷ 0 ∷ 0 ∷ [])) gives 1
    ∷ refused_on6 (ledger_with 1 105408 0 8 0 (1 ∷ 0 ∷ 0 ∷ 0 ∷ 2 ∷ 0 ∷ 0 ∷ 0 ∷ [])) gives 0
    ∷ refused_on6 (ledger_with 1 105409 0 8 0 (1 ∷ 0 ∷ 0 ∷ 0 ∷ 2 ∷ 0 ∷ 0 ∷ 0 ∷ [])) gives 1
    ∷ refused_on6 (ledger_with 1 7 0 9 0 (1 ∷ 0 ∷ 0 ∷ 0 ∷ 2 ∷ 0 ∷ 0 ∷ 0 ∷ [])) gives 1
    ∷ refused_on6 (ledger_with 1 7 0 8 1 (1 ∷ 0 ∷ 0 ∷ 0 ∷ 2 ∷ 0 ∷ 0 ∷ 0 ∷ [])) gives 1
    ∷ refused_on6 (ledger_with 1 7 0 8 0 []) gives 1
    ∷ refused_on6 (ledger_with 1 7 0 8 0 (0 ∷ 0 ∷ 0 ∷ 0 ∷ 2 ∷ 0 ∷ 0 ∷ 0 ∷ [])) gives 1
    ∷ refused_on6 (ledger_with 1 7 0 8 0 (2 ∷ 0 ∷ 0 ∷ 0 ∷ 2 ∷ 0 ∷ 0 ∷ 0 ∷ [])) gives 1
    ∷ refused_on6 (buffer 63) gives 1
    ∷ refused_on6 (drop 1 (ledger_with 1 7 0 8 0 (1 ∷ 0 ∷ 0 ∷ 0 ∷ 2 ∷ 0 ∷ 0 ∷ 0 ∷ []))) gives 1
    -- commitment, charged sum and its limit, sums that close
    ∷ refused_on6 (ledger_with 1 7 5 8 0 (1 ∷ 4000000 ∷ 439200000000 ∷ 0 ∷ 2 ∷ 4000000 ∷ 5 ∷ 439200000000 ∷ [])) gives 0
    ∷ refused_on6 (ledger_with 1 7 5 8 0 (1 ∷ 4000001 ∷ 439200000000 ∷ 0 ∷ 2 ∷ 4000000 ∷ 5 ∷ 439200000000 ∷ [])) gives 1
    ∷ refused_on6 (ledger_with 1 7 6 8 0 (1 ∷ 4000000 ∷ 439200000001 ∷ 0 ∷ 2 ∷ 4000000 ∷ 5 ∷ 439200000000 ∷ [])) gives 1
    ∷ refused_on6 (ledger_with 1 7 6 8 0 (1 ∷ 4000000 ∷ 439200000000 ∷ 0 ∷ 2 ∷ 4000000 ∷ 5 ∷ 439200000000 ∷ [])) gives 1
    -- 64-bit words, which do not count as equal by their lower halves
    ∷ refused_on6 (bytes_of_words 8 (1 ∷ 200000 ∷ 4294967662 ∷ 7 ∷ 0 ∷ 1 ∷ 8 ∷ 0 ∷ 2 ∷ 0 ∷ 0 ∷ 0 ∷ [])) gives 1
    ∷ refused_on6 (ledger_with 1 7 0 8 0 (4294967298 ∷ 0 ∷ 0 ∷ 0 ∷ [])) gives 0
    -- word 7: 0, 2016 with 365 days, and 2018 to 2023, in all 64 bits
    ∷ refused_on6 (ledger_of_year 365 0 0 0) gives 0
    ∷ refused_on6 (ledger_of_year 365 2016 0 0) gives 0
    ∷ refused_on6 (ledger_of_year 366 2016 0 0) gives 1
    ∷ refused_on6 (ledger_of_year 365 2017 0 0) gives 1
    ∷ refused_on6 (ledger_of_year 366 2018 0 0) gives 0
    ∷ refused_on6 (ledger_of_year 365 2023 0 0) gives 0
    ∷ refused_on6 (ledger_of_year 365 2024 0 0) gives 1
    ∷ refused_on6 (ledger_of_year 365 1 0 0) gives 1
    ∷ refused_on6 (ledger_of_year 365 4294967296 0 0) gives 1
    ∷ refused_on6 (ledger_of_year 365 4294969312 0 0) gives 1
    -- and the limit is that year's: three quarters for 2016
    ∷ refused_on6 (ledger_of_year 365 2016 1000 8212500) gives 0
    ∷ refused_on6 (ledger_of_year 365 2016 1000 8212501) gives 1
    ∷ refused_on6 (ledger_of_year 365 2018 1000 16425000) gives 0
    ∷ refused_on6 (ledger_of_year 365 2018 1000 16425001) gives 1
    -- carried cents at their most, and one more
    ∷ refused_on6
    (ledger_with 1 7 1099511627775 8 0
    (1 ∷ 4000000 ∷ 439200000000 ∷ 0 ∷ 2 ∷ 4000000 ∷ 439200000000 ∷ 0 ∷ 3 ∷ 4000000 ∷ 221111627775 ∷ 0 ∷ []))
    gives 0
    ∷ refused_on6
    (ledger_with 1 7 1099511627776 8 0
    (1 ∷ 4000000 ∷ 439200000000 ∷ 0 ∷ 2 ∷ 4000000 ∷ 439200000000 ∷ 0 ∷ 3 ∷ 4000000 ∷ 221111627776 ∷ 0 ∷ []))
    gives 1
    ∷ []

-- all figures of opening and of ground 6
pub record LedgerFigures : Type 0 where
  pub opened : opening listing_block (buffer 200) ≡ record { refusal = 0; ledger = opened_listing }
  pub opened_2016 : opening (dated_with 30000 365 2016 (11 ∷ [])) (buffer 96)
      ≡ record { refusal = 0; ledger = opened2016 }
  pub opening_figures_hold : AllAsStated opening_figures
  pub opening_order_hold : AllAsStated opening_order
  pub ledger_figures_hold : AllAsStated ledger_figures
