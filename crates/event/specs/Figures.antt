-- Worked figures of events.
use Rattle.std.specs.Prelude.{ℕ, ◌≡◌, List, [], ◌∷◌, ◌++◌, length}
use Rattle.words.specs.Words.{bytes_of, bytes_of_words, word64}
use Rattle.words.specs.Figures.{Figure, ◌gives◌, AllAsStated}
use Rattle.ledger.specs.Figures.{buffer, opened_listing}
use Rattle.settling.specs.Figures.{listing_file, settled_listing, result_listing}
use Rattle.event.specs.Event.{event}

-- a file after its length
unfoldable pub framed : List ℕ → List ℕ
framed file = bytes_of 4 (length file) ++ file

-- the listing's file of an interval, after its length
unfoldable pub listing_framed : ℕ → List ℕ
listing_framed interval = framed (listing_file interval 0 0)

-- the answer to files on a ledger, with a result buffer of so many bytes
unfoldable pub answers : List ℕ → List ℕ → ℕ → ℕ
answers ledger files bytes = (event ledger files (buffer bytes) (buffer 8)).refusal

-- how many of them are settled
unfoldable pub settles : List ℕ → List ℕ → ℕ → ℕ
settles ledger files bytes = word64 (event ledger files (buffer bytes) (buffer 8)).count 0

-- answers and counts, on either side of each rule
unfoldable pub event_figures : List Figure
event_figures =
    answers opened_listing (listing_framed 1000 ++ listing_framed 1001) 640 gives 0
    ∷ settles opened_listing (listing_framed 1000 ++ listing_framed 1001) 640 gives 2
    -- a result buffer that ends within the second result
    ∷ answers opened_listing (listing_framed 1000 ++ listing_framed 1001) 639 gives 15
    ∷ settles opened_listing (listing_framed 1000 ++ listing_framed 1001) 639 gives 1
    -- the first refusal stops the call: the third file would settle
    ∷ answers opened_listing (listing_framed 1000 ++ listing_framed 1000 ++ listing_framed 1001) 960 gives 10
    ∷ settles opened_listing (listing_framed 1000 ++ listing_framed 1000 ++ listing_framed 1001) 960 gives 1
    -- no bytes left, with a ledger of none too, and 1 to 3
    ∷ answers [] [] 0 gives 0
    ∷ settles [] [] 0 gives 0
    ∷ answers opened_listing (buffer 1) 640 gives 22
    ∷ answers opened_listing (listing_framed 1000 ++ (0 ∷ 0 ∷ 0 ∷ [])) 640 gives 22
    ∷ settles opened_listing (listing_framed 1000 ++ (0 ∷ 0 ∷ 0 ∷ [])) 640 gives 1
    -- a length of 0 is an empty file, one that runs past the buffer by a byte is not, and 22 comes before 6
    ∷ answers opened_listing (bytes_of 4 0) 640 gives 7
    ∷ answers [] (bytes_of 4 0) 640 gives 6
    ∷ answers opened_listing (bytes_of 4 1) 640 gives 22
    ∷ answers [] (bytes_of 4 1) 640 gives 22
    ∷ answers [] (buffer 7) 640 gives 22
    ∷ []

-- all figures of events
pub record EventFigures : Type 0 where
  pub answers_and_counts : AllAsStated event_figures
  -- the listing's file by itself: every byte, with a count buffer four bytes longer than it need be
  pub settled : event opened_listing (listing_framed 1000) (buffer 328) (buffer 12)
      ≡ record {
        refusal = 0;
        ledger = settled_listing;
        result = result_listing;
        count = bytes_of_words 8 (1 ∷ []) ++ buffer 4;
      }
  -- the same file again is refused: ledger and result are those of the first, and the count is written
  pub refused : event opened_listing (listing_framed 1000 ++ listing_framed 1000) (buffer 328) (buffer 8)
      ≡ record { refusal = 10; ledger = settled_listing; result = result_listing; count = bytes_of_words 8 (1 ∷ []) }
  -- a count buffer under 8 bytes, before all else
  pub no_room : event opened_listing (listing_framed 1000) (buffer 328) (buffer 7)
      ≡ record { refusal = 20; ledger = opened_listing; result = buffer 328; count = buffer 7 }
  pub no_room_first : event [] (buffer 1) [] [] ≡ record { refusal = 20; ledger = []; result = []; count = [] }
  pub no_room_for_none : event [] [] [] (buffer 7) ≡ record { refusal = 20; ledger = []; result = []; count = buffer 7 }
