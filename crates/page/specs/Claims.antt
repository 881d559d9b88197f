-- What is proved of a plant's page.
use Rattle.std.specs.Prelude.{ℕ, ◌<◌, ◌≡◌, List, [], ◌∷◌, ◌++◌, true, cond, length, take, drop, eqb}
use Rattle.words.specs.Words.{Bytes}
use Rattle.stream.specs.Claims.{reading_steps}
use Rattle.listing.specs.Lines.{heading, RowLine, Line, bytes_of_lines}
use Rattle.listing.specs.Npalist.{listed}
use Rattle.page.specs.Page.{
  id_word_bytes,
  summed,
  opened,
  on_roster,
  opening_of,
  lines_above,
  page_year,
  page_lines,
  npapage,
}
use Rattle.page.specs.Steps.{page_start, id_outcome, page_steps}

-- the heading, the step on the id word, and then steps that each read a length and the bytes due after it
unfoldable pub read_page : ℕ → List ℕ → List ℕ
read_page budget input =
    let first = id_outcome (take id_word_bytes input) in
    let rest = reading_steps (page_steps first.state) budget 0 page_start (drop id_word_bytes input) in
    heading ++ bytes_of_lines (first.printed ++ cond first.on rest.printed [])

-- They are what npapage prints, for every input of fewer bytes than there are steps
unfoldable pub StepsPrintThePage : Type 0
StepsPrintThePage =
    (budget : ℕ) (input : List ℕ) → length input < budget → read_page budget input ≡ npapage input

-- the row lines among some lines
unfoldable pub rows_among : List Line → List RowLine
rows_among [] = []
rows_among (Line.row r ∷ ls) = r ∷ rows_among ls
rows_among (Line.pool p ∷ ls) = rows_among ls
rows_among (Line.refused block refusal ∷ ls) = rows_among ls
rows_among (Line.cut block ∷ ls) = rows_among ls
rows_among (Line.year y ∷ ls) = rows_among ls

-- those of them that have an id
unfoldable pub rows_of_plant : ℕ → List RowLine → List RowLine
rows_of_plant id [] = []
rows_of_plant id (r ∷ rs) = cond (eqb r.id id) (r ∷ rows_of_plant id rs) (rows_of_plant id rs)

-- of the page of a plant on the roster of a stream with an accepted opening
pub record PageHolds (id : ℕ) (stream : List ℕ) : Type 0 where
  -- the year line comes last
  pub last : page_lines id stream ≡ lines_above id stream ++ (Line.year (page_year id stream) ∷ [])
  -- the row lines are npalist's of that id, in order
  pub rows : rows_among (page_lines id stream) ≡ rows_of_plant id (rows_among (listed stream).printed)
  -- the year's figures are the sums of those of the lines above
  pub shortfall : (page_year id stream).shortfall ≡ summed (λ r. r.shortfall) (lines_above id stream)
  pub bonus : (page_year id stream).bonus ≡ summed (λ r. r.bonus) (lines_above id stream)
  pub charged : (page_year id stream).charged ≡ summed (λ r. r.charge) (lines_above id stream)
  pub credited : (page_year id stream).credited ≡ summed (λ r. r.credit) (lines_above id stream)

-- A page has its plant's lines and their sums, for every such stream and plant
unfoldable pub PageOfAPlant : Type 0
PageOfAPlant =
    (id : ℕ) (stream : List ℕ) → Bytes stream → opened stream ≡ true → on_roster id (opening_of stream) ≡ true
    → PageHolds id stream
