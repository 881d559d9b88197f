-- A plant's page: the lines of a stream that are its own, with refusals and cuts, and then its year.
use Rattle.std.specs.Prelude.{ℕ, List, [], ◌∷◌, ◌++◌, Bool, true, false, cond, length, drop, ltb, eqb}
use Rattle.words.specs.Lists.{sum, any}
use Rattle.words.specs.Words.{number}
use Rattle.stream.specs.Stream.{next_block, bytes_of_next}
use Rattle.reading.specs.Block.{most_block_bytes, block_of}
use Rattle.assessment.specs.Assessment.{account_of, limit}
use Rattle.ledger.specs.Ledger.{ledger_of}
use Rattle.listing.specs.Lines.{heading, RowLine, YearLine, Line, bytes_of_lines}
use Rattle.listing.specs.Npalist.{ledger_buffer, next_listed, listed}

-- the plant's id comes before the stream, as one 32-bit word
abbrev pub id_word_bytes : ℕ
id_word_bytes = 4

-- the ground of an id outside the roster
abbrev pub outside_roster : ℕ
outside_roster = 17

-- whether a line of the listing stands on the plant's page: its rows', refusals and cuts
unfoldable pub on_page : ℕ → Line → Bool
on_page id (Line.row r) = eqb r.id id
on_page id (Line.pool p) = false
on_page id (Line.refused block refusal) = true
on_page id (Line.cut block) = true
on_page id (Line.year y) = false

-- those of some lines that stand on the plant's page
unfoldable pub chosen : ℕ → List Line → List Line
chosen id [] = []
chosen id (l ∷ ls) = cond (on_page id l) (l ∷ chosen id ls) (chosen id ls)

-- a figure of a row's line; no other line has any
unfoldable pub figure_on : (RowLine → ℕ) → Line → ℕ
figure_on figure (Line.row r) = figure r
figure_on figure (Line.pool p) = 0
figure_on figure (Line.refused block refusal) = 0
figure_on figure (Line.cut block) = 0
figure_on figure (Line.year y) = 0

-- the sum of a figure over the rows' lines
unfoldable pub summed : (RowLine → ℕ) → List Line → ℕ
summed figure = sum (figure_on figure)

-- a plant's year: shortfall and bonus summed, and what a ledger has it charged and credited, with the limit of its
-- largest commitment
unfoldable pub year_of : ℕ → ℕ → ℕ → List ℕ → YearLine
year_of id shortfall bonus ledger =
    let l = ledger_of ledger in
    let a = account_of id l.accounts in
    record {
      id = id;
      shortfall = shortfall;
      bonus = bonus;
      charged = a.charged;
      credited = a.credited;
      limit = limit l.terms a.largest;
    }

-- whether an opening comes first in a stream, and is accepted
unfoldable pub opened : List ℕ → Bool
opened stream = (next_listed 0 ledger_buffer stream).on

-- whether an id is on the roster of an opening block
unfoldable pub on_roster : ℕ → List ℕ → Bool
on_roster id block = any (λ i. eqb i id) (block_of block).ids

-- the opening block of a stream
unfoldable pub opening_of : List ℕ → List ℕ
opening_of stream = bytes_of_next (next_block most_block_bytes stream)

-- the lines above the year: those of the listing that stand on the page
unfoldable pub lines_above : ℕ → List ℕ → List Line
lines_above id stream = chosen id (listed stream).printed

-- the year, of the lines above it and of the ledger that the stream leaves
unfoldable pub page_year : ℕ → List ℕ → YearLine
page_year id stream =
    let above = lines_above id stream in
    year_of id (summed (λ r. r.shortfall) above) (summed (λ r. r.bonus) above) (listed stream).state

-- the lines of a page: without an accepted opening no year, and for an id outside the roster only its refusal
unfoldable pub page_lines : ℕ → List ℕ → List Line
page_lines id stream =
    let page = lines_above id stream ++ (Line.year (page_year id stream) ∷ []) in
    cond (opened stream)
    (cond (on_roster id (opening_of stream)) page (Line.refused 0 outside_roster ∷ []))
    (lines_above id stream)

-- npapage: the heading in any case, then the page of the plant whose id comes first in standard input; without a
-- whole id word a cut in block 0
unfoldable pub npapage : List ℕ → List ℕ
npapage input =
    heading
    ++ bytes_of_lines
    (cond (ltb (length input) id_word_bytes) (Line.cut 0 ∷ [])
    (page_lines (number id_word_bytes input) (drop id_word_bytes input)))
