-- Worked figures of plants' pages.
use Rattle.std.specs.Prelude.{ℕ, ◌≡◌, List, [], ◌∷◌, ◌++◌, take, drop}
use Rattle.words.specs.Words.{bytes_of}
use Rattle.ledger.specs.Figures.{listing_block}
use Rattle.settling.specs.Figures.{file_with, listing_file}
use Rattle.listing.specs.Lines.{text}
use Rattle.listing.specs.Figures.{counted, heading_text, listing_stream}
use Rattle.page.specs.Page.{npapage}

-- what npapage prints for an id and a stream, after the heading
abbrev pub Prints : ℕ → List ℕ → List ℕ → Type 0
Prints id stream lines = npapage (bytes_of 4 id ++ stream) ≡ heading_text ++ lines

-- plant 11 at interval 1001: price responsive demand committed to 5000 kW, at an LMP that its curve reaches with
-- 0 kW, so not considered
unfoldable pub not_considered : List ℕ
not_considered =
    file_with 30000 365 1001 0 0
    (11 ∷ 3 ∷ 5000 ∷ 0 ∷ 0 ∷ 0 ∷ 0 ∷ 0 ∷ 0 ∷ 0 ∷ 0 ∷ 1999 ∷ 0 ∷ 2 ∷ [])
    (500 ∷ 0 ∷ 2000 ∷ 3000 ∷ [])

-- pages of the listing's stream, and of streams that are refused or cut
pub record PageFigures : Type 0 where
  -- limits: 3 × 30000 × 365 × 50000 / 2000, nothing committed, and 3 × 30000 × 365 × 5000 / 2000
  pub charged : Prints 12 listing_stream
      (text "1000,12,43333,25000,0,0,18333,0,557629,0\n" ++ text "year,12,18333,0,557629,0,821250000\n")
  pub credited : Prints 13 listing_stream
      (text "1000,13,0,35000,0,0,0,30000,0,418211\n" ++ text "year,13,0,30000,0,418211,0\n")
  pub last_plant : Prints 14 listing_stream
      (text "1000,14,5000,15001,0,0,0,10001,0,139417\n" ++ text "year,14,0,10001,0,139417,82125000\n")
  -- two intervals, with sums over both: the limit is of the larger commitment, not of today's
  pub two_intervals : Prints 11 (listing_stream ++ counted not_considered)
      (text "1000,11,86667,60000,10000,26667,0,0,0,0\n"
      ++ text "1001,11,0,0,0,0,0,0,0,0\n"
      ++ text "year,11,0,0,0,0,1642500000\n")
  pub twice : Prints 13 (listing_stream ++ counted (listing_file 1001 0 0))
      (text "1000,13,0,35000,0,0,0,30000,0,418211\n"
      ++ text "1001,13,0,35000,0,0,0,30000,0,418212\n"
      ++ text "year,13,0,60000,0,836423,0\n")
  -- a row of zeros, and a limit
  pub not_considered_hold : Prints 11 (counted listing_block ++ counted not_considered)
      (text "1001,11,0,0,0,0,0,0,0,0\n" ++ text "year,11,0,0,0,0,82125000\n")
  pub no_rows : Prints 14 (counted listing_block) (text "year,14,0,0,0,0,0\n")
  -- an id that is not on the roster, whatever follows, and 0
  pub outside : Prints 15 (listing_stream ++ 1 ∷ []) (text "refused,0,17\n")
  pub zero : Prints 0 listing_stream (text "refused,0,17\n")
  pub most : Prints 4294967295 listing_stream (text "refused,0,17\n")
  -- refused and cut blocks stand where they fall, and the year comes last
  pub refused_interval : Prints 12
      (counted listing_block ++ bytes_of 4 0 ++ counted (listing_file 1000 0 0) ++ counted (listing_file 1000 0 0))
      (text "refused,1,7\n"
      ++ text "1000,12,43333,25000,0,0,18333,0,557629,0\n"
      ++ text "refused,3,10\n"
      ++ text "year,12,18333,0,557629,0,821250000\n")
  pub cut_later : Prints 14 (listing_stream ++ 1 ∷ [])
      (text "1000,14,5000,15001,0,0,0,10001,0,139417\n" ++ text "cut,2\n" ++ text "year,14,0,10001,0,139417,82125000\n")
  pub long_interval : Prints 14 (counted listing_block ++ bytes_of 4 61441 ++ counted (listing_file 1000 0 0))
      (text "refused,1,7\n" ++ text "year,14,0,0,0,0,0\n")
  -- without an accepted opening there is no year, and no id is looked for
  pub refused_opening : Prints 15 (counted (drop 4 listing_block) ++ listing_stream) (text "refused,0,1\n")
  pub long_opening : Prints 12 (bytes_of 4 4097) (text "refused,0,1\n")
  pub cut_opening : Prints 15 (take 30 listing_stream) (text "cut,0\n")
  pub no_opening : Prints 12 [] (text "cut,0\n")
  -- a missing id word is a cut in block 0
  pub no_id : npapage [] ≡ heading_text ++ text "cut,0\n"
  pub cut_id : npapage (12 ∷ 0 ∷ 0 ∷ []) ≡ heading_text ++ text "cut,0\n"
