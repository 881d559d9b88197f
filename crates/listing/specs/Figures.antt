-- Document 01's listing, byte for byte, and worked figures of refused and cut blocks.
use Rattle.std.specs.Prelude.{ℕ, ◌≡◌, List, [], ◌∷◌, ◌++◌, length, take, drop, replicate}
use Rattle.words.specs.Words.{bytes_of}
use Rattle.ledger.specs.Figures.{listing_block}
use Rattle.settling.specs.Figures.{listing_file}
use Rattle.listing.specs.Lines.{text, decimal}
use Rattle.listing.specs.Npalist.{npalist}

-- a block after its length
unfoldable pub counted : List ℕ → List ℕ
counted block = bytes_of 4 (length block) ++ block

-- the heading
unfoldable pub heading_text : List ℕ
heading_text = text "interval,id,expected,actual,outage,economic,shortfall,bonus,charge,credit\n"

-- the lines of the listing's interval 1000
unfoldable pub listing_text : List ℕ
listing_text =
    text "1000,11,86667,60000,10000,26667,0,0,0,0\n"
    ++ text "1000,12,43333,25000,0,0,18333,0,557629,0\n"
    ++ text "1000,13,0,35000,0,0,0,30000,0,418211\n"
    ++ text "1000,14,5000,15001,0,0,0,10001,0,139417\n"
    ++ text "pool,1000,866673,557629,557628,1\n"

-- the listing's stream
unfoldable pub listing_stream : List ℕ
listing_stream = counted listing_block ++ counted (listing_file 1000 0 0)

-- what npalist prints
pub record NpalistFigures : Type 0 where
  pub listing : npalist listing_stream ≡ heading_text ++ listing_text
  -- an empty stream, and one that ends inside a length or a block
  pub empty : npalist [] ≡ heading_text ++ text "cut,0\n"
  pub cut_length : npalist (0 ∷ 0 ∷ 0 ∷ []) ≡ heading_text ++ text "cut,0\n"
  pub cut_block : npalist (take 30 listing_stream) ≡ heading_text ++ text "cut,0\n"
  pub opening_alone : npalist (counted listing_block) ≡ heading_text
  pub cut_later_length : npalist (listing_stream ++ 1 ∷ []) ≡ heading_text ++ listing_text ++ text "cut,2\n"
  pub cut_later_block : npalist (counted listing_block ++ bytes_of 4 40 ++ replicate 39 0) ≡ heading_text ++ text "cut,1\n"
  -- a refused opening ends the listing, a refused interval does not
  pub refused_opening : npalist (counted (drop 4 listing_block) ++ listing_stream) ≡ heading_text ++ text "refused,0,1\n"
  pub no_opening : npalist (bytes_of 4 0 ++ listing_stream) ≡ heading_text ++ text "refused,0,1\n"
  pub refused_interval : npalist
      (counted listing_block ++ bytes_of 4 0 ++ counted (listing_file 1000 0 0) ++ counted (listing_file 1000 0 0))
      ≡ heading_text ++ text "refused,1,7\n" ++ listing_text ++ text "refused,3,10\n"
  -- a length over the limit is refused before its block is read, and ends the listing
  pub long_opening : npalist (bytes_of 4 4097) ≡ heading_text ++ text "refused,0,1\n"
  pub long_interval : npalist (counted listing_block ++ bytes_of 4 61441 ++ counted (listing_file 1000 0 0))
      ≡ heading_text ++ text "refused,1,7\n"
  pub length_at_limit : npalist (counted listing_block ++ bytes_of 4 61440) ≡ heading_text ++ text "cut,1\n"
  -- a block of format 1 that is too long for its format, but not for a block, is read and refused,
  -- and the listing goes on
  pub long_format_1 : npalist
      (counted listing_block ++ counted (bytes_of 4 1 ++ replicate 49149 0) ++ counted (listing_file 1000 0 0))
      ≡ heading_text ++ text "refused,1,7\n" ++ listing_text
  -- numbers without padding, up to the largest 64-bit word
  pub zero_digits : decimal 0 ≡ text "0"
  pub one_digit : decimal 9 ≡ text "9"
  pub two_digits : decimal 10 ≡ text "10"
  pub most_digits_hold : decimal 18446744073709551615 ≡ text "18446744073709551615"
