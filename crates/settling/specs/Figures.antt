-- Document 01's listing, to every byte of ledger and result, and worked figures of the grounds of settling.
use Rattle.std.specs.Prelude.{ℕ, ◌+◌, ◌*◌, ◌/◌, ◌≡◌, List, [], ◌∷◌, ◌++◌, length, take, drop}
use Rattle.words.specs.Words.{word64, bytes_of_words}
use Rattle.words.specs.Figures.{Figure, ◌gives◌, AllAsStated}
use Rattle.ledger.specs.Figures.{buffer, opened_listing, ledger_with}
use Rattle.settling.specs.Settling.{settling}

-- a file of format 1: Net CONE, days, interval, region-wide, net imports, the rows' words and the points' words
unfoldable pub file_with : ℕ → ℕ → ℕ → ℕ → ℕ → List ℕ → List ℕ → List ℕ
file_with net_cone days interval region_wide imports rows points =
    let places : List ℕ = (length rows / 14) ∷ 40 ∷ (length points / 2) ∷ (40 + 4 * length rows) ∷ [] in
    let header : List ℕ = 1 ∷ interval ∷ net_cone ∷ days ∷ region_wide ∷ imports ∷ places in
    bytes_of_words 4 (header ++ rows ++ points)

-- a file of format 2: net imports none, not region-wide; an interval, the rows' words, the points' and the schedules'
unfoldable pub file_of_schedules : ℕ → List ℕ → List ℕ → List ℕ → List ℕ
file_of_schedules interval rows points schedules =
    let behind = 48 + 4 * length rows in
    let places : List ℕ = (length rows / 15) ∷ 48 ∷ (length points / 2) ∷ behind ∷ [] in
    let named : List ℕ = (length schedules / 3) ∷ (behind + 4 * length points) ∷ [] in
    let header : List ℕ = 2 ∷ interval ∷ 30000 ∷ 365 ∷ 0 ∷ 0 ∷ places in
    bytes_of_words 4 (header ++ named ++ rows ++ points ++ schedules)

-- the words of a row in format 2: its first twelve, the first schedule, their number, and the one dispatched on
unfoldable pub naming : List ℕ → ℕ → ℕ → ℕ → List ℕ
naming row first count dispatched = take 12 row ++ first ∷ count ∷ dispatched ∷ []

-- row 11 of the listing, 14 words
unfoldable pub row11 : List ℕ
row11 = 11 ∷ 0 ∷ 100000 ∷ 110000 ∷ 60000 ∷ 0 ∷ 10000 ∷ 0 ∷ 110000 ∷ 20000 ∷ 1 ∷ 3000 ∷ 0 ∷ 2 ∷ []

-- row 12
unfoldable pub row12 : List ℕ
row12 = 12 ∷ 0 ∷ 50000 ∷ 60000 ∷ 20000 ∷ 5000 ∷ 0 ∷ 35000 ∷ 25000 ∷ 10000 ∷ 1 ∷ 6001 ∷ 2 ∷ 2 ∷ []

-- row 13
unfoldable pub row13 : List ℕ
row13 = 13 ∷ 4 ∷ 0 ∷ 40000 ∷ 35000 ∷ 0 ∷ 0 ∷ 0 ∷ 40000 ∷ 0 ∷ 1 ∷ 3000 ∷ 4 ∷ 2 ∷ []

-- row 14
unfoldable pub row14 : List ℕ
row14 = 14 ∷ 1 ∷ 5000 ∷ 0 ∷ 15001 ∷ 0 ∷ 0 ∷ 0 ∷ 0 ∷ 0 ∷ 0 ∷ 0 ∷ 0 ∷ 0 ∷ []

-- the listing's points: curve A, then those of rows 12 and 13
unfoldable pub listing_points : List ℕ
listing_points = 1000 ∷ 20000 ∷ 5000 ∷ 100000 ∷ 1000 ∷ 10000 ∷ 6000 ∷ 50000 ∷ 0 ∷ 0 ∷ 4000 ∷ 40000 ∷ []

-- the listing's file, of an interval, with net imports, region-wide or not
unfoldable pub listing_file : ℕ → ℕ → ℕ → List ℕ
listing_file interval region_wide imports =
    file_with 30000 365 interval region_wide imports (row11 ++ row12 ++ row13 ++ row14) listing_points

-- the ledger after the listing's interval 1000
unfoldable pub settled_listing : List ℕ
settled_listing =
    bytes_of_words 8 (
    1 ∷ 30000 ∷ 365 ∷ 1001 ∷ 1 ∷ 4 ∷ 8 ∷ 0
    ∷ 11 ∷ 100000 ∷ 0 ∷ 0
    ∷ 12 ∷ 50000 ∷ 557629 ∷ 0
    ∷ 13 ∷ 0 ∷ 0 ∷ 418211
    ∷ 14 ∷ 5000 ∷ 0 ∷ 139417
    ∷ []
    ) ++ buffer 8

-- the result, in a buffer eight bytes longer than it need be
unfoldable pub result_listing : List ℕ
result_listing =
    bytes_of_words 8 (
    866673 ∷ 557629 ∷ 557628 ∷ 1 ∷ 40001 ∷ 130001 ∷ 150000 ∷ 4
    ∷ 86667 ∷ 60000 ∷ 10000 ∷ 26667 ∷ 0 ∷ 0 ∷ 0 ∷ 0
    ∷ 43333 ∷ 25000 ∷ 0 ∷ 0 ∷ 18333 ∷ 0 ∷ 557629 ∷ 0
    ∷ 0 ∷ 35000 ∷ 0 ∷ 0 ∷ 0 ∷ 30000 ∷ 0 ∷ 418211
    ∷ 5000 ∷ 15001 ∷ 0 ∷ 0 ∷ 0 ∷ 10001 ∷ 0 ∷ 139417
    ∷ []
    ) ++ buffer 8

-- the whole listing
pub record ListingHolds : Type 0 where
  pub settled : settling opened_listing (listing_file 1000 0 0) (buffer 328)
      ≡ record { refusal = 0; ledger = settled_listing; result = result_listing }

-- the answer of settling a file into the listing's ledger as opened, with a result buffer of so many bytes
unfoldable pub settles : List ℕ → ℕ → ℕ
settles file bytes = (settling opened_listing file (buffer bytes)).refusal

-- a demand resource that metered so many of 4000000 kW at interval 7
unfoldable pub demand_file : ℕ → ℕ → List ℕ
demand_file id metered =
    file_with 200000 366 7 0 0 (id ∷ 1 ∷ 4000000 ∷ 0 ∷ metered ∷ 0 ∷ 0 ∷ 0 ∷ 0 ∷ 0 ∷ 0 ∷ 0 ∷ 0 ∷ 0 ∷ []) []

-- the answer of settling that file of plant 2, with nothing short, into a ledger
unfoldable pub holds : List ℕ → ℕ
holds ledger = (settling ledger (demand_file 2 4000000) (buffer 128)).refusal

-- ledgers that take the file, and that refuse it on 6, 10 and 12
unfoldable pub passed_figures : List Figure
passed_figures =
    holds (ledger_with 1 7 0 8 0 (1 ∷ 0 ∷ 0 ∷ 0 ∷ 2 ∷ 0 ∷ 0 ∷ 0 ∷ [])) gives 0
    ∷ holds (ledger_with 2 7 0 8 0 (1 ∷ 0 ∷ 0 ∷ 0 ∷ 2 ∷ 0 ∷ 0 ∷ 0 ∷ [])) gives 6
    ∷ holds (ledger_with 1 105408 0 8 0 (1 ∷ 0 ∷ 0 ∷ 0 ∷ 2 ∷ 0 ∷ 0 ∷ 0 ∷ [])) gives 10
    -- ids are compared in 64 bits
    ∷ holds (ledger_with 1 7 0 8 0 (4294967298 ∷ 0 ∷ 0 ∷ 0 ∷ [])) gives 12
    ∷ []

-- plant 2 at its limit, plant 3 not, and the carried cents at their most
unfoldable pub full_pool : List ℕ
full_pool =
    ledger_with 1 7 1099511627775 8 0 (
    1 ∷ 4000000 ∷ 439200000000 ∷ 0
    ∷ 2 ∷ 4000000 ∷ 439200000000 ∷ 0
    ∷ 3 ∷ 4000000 ∷ 221111627775 ∷ 0
    ∷ []
    )

-- the listing's file in format 2, each curve as a market schedule that its row was dispatched on
unfoldable pub listing_of_schedules : List ℕ
listing_of_schedules =
    file_of_schedules 1000
    (naming row11 0 1 0 ++ naming row12 1 1 0 ++ naming row13 2 1 0 ++ naming row14 0 0 0) listing_points
    (1 ∷ 0 ∷ 2 ∷ 1 ∷ 2 ∷ 2 ∷ 1 ∷ 4 ∷ 2 ∷ [])

-- a row of id 11 with a first point and a number of points
unfoldable pub row_with_points : ℕ → ℕ → List ℕ
row_with_points first count = 11 ∷ 0 ∷ 0 ∷ 0 ∷ 0 ∷ 0 ∷ 0 ∷ 0 ∷ 0 ∷ 0 ∷ 0 ∷ 0 ∷ first ∷ count ∷ []

-- a row of id 12 and a kind, with nothing in it
unfoldable pub row_of_kind : ℕ → List ℕ
row_of_kind kind = 12 ∷ kind ∷ 0 ∷ 0 ∷ 0 ∷ 0 ∷ 0 ∷ 0 ∷ 0 ∷ 0 ∷ 0 ∷ 0 ∷ 0 ∷ 0 ∷ []

-- grounds of settling: a file or buffer at a bound, and one beyond it
unfoldable pub settling_figures : List Figure
settling_figures =
    settles (listing_file 1000 0 0) 320 gives 0
    ∷ settles (listing_file 1000 0 0) 319 gives 15
    ∷ settles (drop 1 (listing_file 1000 0 0)) 320 gives 7
    ∷ settles (buffer 39) 320 gives 7
    ∷ settles (file_with 30001 365 1000 0 0 row14 []) 320 gives 8
    ∷ settles (file_with 30000 366 1000 0 0 row14 []) 320 gives 8
    ∷ settles (listing_file 105119 0 0) 320 gives 0
    ∷ settles (listing_file 105120 0 0) 320 gives 9
    ∷ settles (listing_file 1000 1 40000000) 320 gives 0
    ∷ settles (listing_file 1000 1 40000001) 320 gives 9
    ∷ settles (listing_file 1000 1 4254967296) 320 gives 0
    ∷ settles (listing_file 1000 1 4254967295) 320 gives 9
    ∷ settles (listing_file 1000 2 0) 320 gives 9
    ∷ (settling settled_listing (listing_file 1000 0 0) (buffer 320)).refusal gives 10
    ∷ (settling settled_listing (listing_file 1001 0 0) (buffer 320)).refusal gives 0
    ∷ settles (file_with 30000 365 1000 0 0 [] []) 320 gives 11
    ∷ settles (file_with 30000 365 1000 0 0 (row12 ++ row11) listing_points) 320 gives 12
    ∷ settles (file_with 30000 365 1000 0 0 (row14 ++ row14) []) 320 gives 12
    ∷ settles (file_with 30000 365 1000 0 0 (15 ∷ drop 1 row14) []) 320 gives 12
    ∷ settles (file_with 30000 365 1000 0 0 (row_of_kind 4) []) 320 gives 0
    ∷ settles (file_with 30000 365 1000 0 0 (row_of_kind 5) []) 320 gives 0
    ∷ settles (file_with 30000 365 1000 1 0 (12 ∷ 5 ∷ 1 ∷ drop 3 (row_of_kind 5)) []) 320 gives 13
    ∷ settles (file_with 30000 365 1000 0 0 (row_of_kind 6) []) 320 gives 13
    ∷ settles (file_with 30000 365 1000 0 0 (row_with_points 0 2) (1 ∷ 1 ∷ 1 ∷ 1 ∷ [])) 320 gives 0
    ∷ settles (file_with 30000 365 1000 0 0 (row_with_points 0 2) (1 ∷ 1 ∷ 0 ∷ 1 ∷ [])) 320 gives 14
    ∷ settles (file_with 30000 365 1000 0 0 (row_with_points 0 2) (1 ∷ 1 ∷ 1 ∷ 0 ∷ [])) 320 gives 14
    ∷ settles (file_with 30000 365 1000 0 0 (row_with_points 1 2) (1 ∷ 1 ∷ 1 ∷ 1 ∷ [])) 320 gives 14
    ∷ settles (file_with 30000 365 1000 0 0 (row_with_points 4294967295 0) []) 320 gives 0
    -- one schedule of one point: named, of a kind that is none, beyond the table, with too high a word 14,
    -- and without points
    ∷ settles (file_of_schedules 1000 (naming (row_of_kind 0) 0 1 0) (1 ∷ 1 ∷ []) (3 ∷ 0 ∷ 1 ∷ [])) 320 gives 0
    ∷ settles (file_of_schedules 1000 (naming (row_of_kind 0) 0 1 0) (1 ∷ 1 ∷ []) (4 ∷ 0 ∷ 1 ∷ [])) 320 gives 18
    ∷ settles (file_of_schedules 1000 (naming (row_of_kind 0) 1 1 0) (1 ∷ 1 ∷ []) (3 ∷ 0 ∷ 1 ∷ [])) 320 gives 18
    ∷ settles (file_of_schedules 1000 (naming (row_of_kind 0) 0 1 1) (1 ∷ 1 ∷ []) (3 ∷ 0 ∷ 1 ∷ [])) 320 gives 18
    ∷ settles (file_of_schedules 1000 (naming (row_of_kind 0) 9 0 0) (1 ∷ 1 ∷ []) (3 ∷ 0 ∷ 1 ∷ [])) 320 gives 0
    ∷ settles (file_of_schedules 1000 (naming (row_of_kind 0) 9 0 1) (1 ∷ 1 ∷ []) (3 ∷ 0 ∷ 1 ∷ [])) 320 gives 18
    ∷ settles (file_of_schedules 1000 (naming (row_of_kind 0) 0 1 0) (1 ∷ 1 ∷ []) (3 ∷ 0 ∷ 0 ∷ [])) 320 gives 14
    -- a full pool: a shortfall whose charge the limit cuts to 0, and one that is charged
    ∷ (settling full_pool (demand_file 2 0) (buffer 128)).refusal gives 0
    ∷ (settling full_pool (demand_file 3 0) (buffer 128)).refusal gives 16
    ∷ []

-- checking order: each call here has two faults of neighbouring grounds, and the first is answered
unfoldable pub order_figures : List Figure
order_figures =
    (settling (buffer 63) (buffer 39) (buffer 128)).refusal gives 6
    ∷ settles (buffer 39) 320 gives 7
    ∷ settles (file_with 30001 365 105120 0 0 row14 []) 320 gives 8
    ∷ (settling settled_listing (listing_file 1000 2 0) (buffer 320)).refusal gives 9
    ∷ (settling settled_listing (file_with 30000 365 1000 0 0 [] []) (buffer 320)).refusal gives 10
    ∷ settles (take 95 (file_with 30000 365 1000 0 0 (15 ∷ drop 1 row14) [])) 320 gives 11
    ∷ settles (file_with 30000 365 1000 0 0 (15 ∷ 6 ∷ drop 2 row14) []) 320 gives 12
    -- a first row whose points fall and a second row of kind 6: all rows are tested for 13 before any for 14
    ∷ settles (file_with 30000 365 1000 0 0 (row_with_points 0 2 ++ row_of_kind 6) (1 ∷ 1 ∷ 0 ∷ 1 ∷ [])) 320 gives 13
    -- a first row whose schedule is of no kind and a second row of kind 6: all are tested for 13 before any for 18
    ∷ settles
    (file_of_schedules 1000 (naming (row_with_points 0 0) 0 1 0 ++ naming (row_of_kind 6) 0 0 0) [] (4 ∷ 0 ∷ 1 ∷ [])) 320
    gives 13
    -- a first row whose schedule has no points and a second whose schedule is of no kind: and for 18 before any for 14
    ∷ settles
    (file_of_schedules 1000
    (naming (row_with_points 0 0) 0 1 0 ++ naming (row_of_kind 0) 1 1 0) [] (1 ∷ 0 ∷ 0 ∷ 4 ∷ 0 ∷ 0 ∷ [])) 320
    gives 18
    ∷ settles (file_with 30000 365 1000 0 0 (row_with_points 0 2) (1 ∷ 1 ∷ 0 ∷ 1 ∷ [])) 127 gives 14
    ∷ (settling full_pool (demand_file 3 0) (buffer 127)).refusal gives 15
    ∷ []

-- the words of the ledger that settling leaves
unfoldable pub leaves : List ℕ → List ℕ → ℕ → ℕ
leaves ledger file k = word64 (settling ledger file (buffer 320)).ledger k

-- figures of an accepted file that neither the listing nor the sums of a year tell
unfoldable pub settled_figures : List Figure
settled_figures =
    -- imports do not count when the event is not region-wide (1000000 if they did)
    word64 (settling opened_listing (listing_file 1000 0 19999) (buffer 320)).result 0 gives 866673
    -- a PRD row not considered raises its account's largest commitment, word 13
    ∷ leaves opened_listing (file_with 30000 365 1000 0 0 (12 ∷ 3 ∷ 3000 ∷ drop 3 (row_of_kind 3)) []) 13 gives 3000
    -- a second file adds to an account's charges and credits, and shares the cent carried
    ∷ leaves settled_listing (listing_file 1001 0 0) 14 gives 1115258
    ∷ leaves settled_listing (listing_file 1001 0 0) 19 gives 836423
    ∷ leaves settled_listing (listing_file 1001 0 0) 4 gives 1
    ∷ []

-- all figures of the grounds and of accepted files
pub record SettlingGroundFigures : Type 0 where
  pub passed_figures_hold : AllAsStated passed_figures
  pub settling_figures_hold : AllAsStated settling_figures
  pub order_figures_hold : AllAsStated order_figures
  pub settled_figures_hold : AllAsStated settled_figures
  -- the same content in both formats leaves the same bytes
  pub same_in_both : settling opened_listing listing_of_schedules (buffer 320)
      ≡ settling opened_listing (listing_file 1000 0 0) (buffer 320)
