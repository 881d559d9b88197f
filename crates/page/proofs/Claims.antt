-- The proofs of what specs/Claims.antt states.
use Prim.Native.Nat.{ℕ, zero, suc, ◌+◌, ◌*◌, ◌<◌}
use mathlib.Core.Path.{◌≡◌, refl, sym, ap, ap₂, ◌∙◌}
use mathlib.Core.List.{List, [], ◌∷◌, ◌++◌, append-nil}
use mathlib.Core.Bool.{Bool, true, false, cond}
use native.Mathlib.Numerals.{add-one}
use native.Mathlib.Omega.{arith}
use lib.ListN.{length, take, drop, length-take, length-drop}
use lib.Dec.{ltb, eqb}
use Rattle.words.specs.Words.{Bytes, number}
use Rattle.words.proofs.Lists.{found_member}
use Rattle.words.proofs.Words.{drop_bytes}
use Rattle.stream.specs.Stream.{length_bytes, End, Next, next_block, bytes_of_next}
use Rattle.stream.specs.Steps.{Outcome, steps_over}
use Rattle.stream.specs.Claims.{reading_steps, ReadingIsEnough}
use Rattle.stream.proofs.Claims.{reading_is_enough}
use Rattle.reading.specs.Block.{block_of}
use Rattle.reading.proofs.SpanTests.{same_test}
use Rattle.reading.specs.Interval.{Row}
use Rattle.assessment.specs.Assessment.{Account, account_of}
use Rattle.ledger.specs.Ledger.{ledger_of}
use Rattle.ledger.specs.Opening.{opening}
use Rattle.year.specs.Year.{GivenRow, new_year, after_calls, sum_of_plant, account_by_rows}
use Rattle.year.proofs.Claims.{kept}
use Rattle.year.proofs.Books.{found}
use Rattle.listing.specs.Lines.{heading, RowLine, Line, bytes_of_lines}
use Rattle.listing.specs.Npalist.{row_line, ledger_buffer, most_bytes, listing_steps, listed}
use Rattle.page.specs.Page.{
  id_word_bytes,
  on_page,
  chosen,
  figure_on,
  summed,
  year_of,
  opened,
  on_roster,
  opening_of,
  lines_above,
  page_year,
  page_lines,
  npapage,
}
use Rattle.page.specs.Steps.{page_start, id_outcome, page_steps}
use Rattle.page.specs.Claims.{read_page, StepsPrintThePage, rows_among, rows_of_plant, PageHolds, PageOfAPlant}
use Rattle.page.proofs.Printed.{over_next, steps_print}
use Rattle.page.proofs.Sums.{given_at, given_first}

-- the number of the first bytes is that of the whole
word_whole : (n : ℕ) (b : List ℕ) → number n (take n b) ≡ number n b
unfolding number
word_whole zero b = refl
word_whole (suc n) [] = refl
word_whole (suc n) (x ∷ b) = ap (λ m. x + 256 * m) (word_whole n b)

-- the steps after the id word print the page
after_word : (budget : ℕ) (input : List ℕ) → length input < budget
    → (reading_steps (page_steps (number id_word_bytes input)) budget 0 page_start (drop id_word_bytes input)).printed
    ≡ page_lines (number id_word_bytes input) (drop id_word_bytes input)
unfolding ReadingIsEnough
after_word budget input h =
    ap (λ o. o.printed) (reading_is_enough _ _ (page_steps (number id_word_bytes input)) budget 0 page_start (drop id_word_bytes input) (omega (arith, length-drop id_word_bytes input)))
    ∙ steps_print (number id_word_bytes input) (drop id_word_bytes input)

-- a word is whole just where the input has as many bytes
word_test : (input : List ℕ) → ltb (length (take id_word_bytes input)) id_word_bytes ≡ ltb (length input) id_word_bytes
word_test input =
    let n = length-take id_word_bytes input in
    same_test (length (take id_word_bytes input)) id_word_bytes (length input) id_word_bytes (λ h. omega (arith, n))
    (λ h. omega (arith, n))

-- the steps print the page
pub steps_print_the_page : StepsPrintThePage
unfolding StepsPrintThePage read_page npapage id_outcome
steps_print_the_page budget input h =
    ap₂ (λ t id. heading ++ bytes_of_lines (lines t id)) (word_test input) (word_whole id_word_bytes input)
    ∙ by (ltb (length input) id_word_bytes)
  where
    lines : Bool → ℕ → List Line
    lines t id =
        let first : Outcome Line ℕ = cond t (record { printed = Line.cut 0 ∷ []; state = 0; on = false })
        (record { printed = []; state = id; on = true }) in
        first.printed ++ cond first.on (reading_steps (page_steps first.state) budget 0 page_start (drop id_word_bytes input)).printed []

    by : (t : Bool) → heading ++ bytes_of_lines (lines t (number id_word_bytes input))
        ≡ heading ++ bytes_of_lines (cond t (Line.cut 0 ∷ []) (page_lines (number id_word_bytes input) (drop id_word_bytes input)))
    by true = refl
    by false = ap (λ ls. heading ++ bytes_of_lines ls) (after_word budget input h)

-- the first of some bytes are bytes
take_bytes : (n : ℕ) (b : List ℕ) → Bytes b → Bytes (take n b)
take_bytes zero b bytes i = omega arith
take_bytes (suc n) [] bytes i = omega arith
take_bytes (suc n) (x ∷ b) bytes zero = bytes 0
take_bytes (suc n) (x ∷ b) bytes (suc i) = take_bytes n b (λ j. bytes (suc j)) i

-- what comes first in a stream of bytes is of bytes
next_bytes : (most : ℕ) (s : List ℕ) → Bytes s → Bytes (bytes_of_next (next_block most s))
unfolding next_block bytes_of_next
next_bytes most s bytes =
    by (eqb (length s) 0) (ltb (length s) length_bytes) (ltb most (number length_bytes s))
    (ltb (length (drop length_bytes s)) (number length_bytes s))
  where
    by : (t u v w : Bool) → Bytes (bytes_of_next (cond t (Next.stop End.ended) (cond u (Next.stop End.cut) (cond v (Next.stop End.over_long) (cond w (Next.stop End.cut)
        (Next.block (take (number length_bytes s) (drop length_bytes s)) (drop (number length_bytes s) (drop length_bytes s))))))))
    by true u v w i = omega arith
    by false true v w i = omega arith
    by false false true w i = omega arith
    by false false false true i = omega arith
    by false false false false i =
        take_bytes (number length_bytes s) (drop length_bytes s) (drop_bytes length_bytes s bytes) i

-- the rows among lines and others
among_append : (xs ys : List Line) → rows_among (xs ++ ys) ≡ rows_among xs ++ rows_among ys
unfolding rows_among
among_append [] ys = refl
among_append (Line.row r ∷ xs) ys = ap (λ rs. r ∷ rs) (among_append xs ys)
among_append (Line.pool p ∷ xs) ys = among_append xs ys
among_append (Line.refused block refusal ∷ xs) ys = among_append xs ys
among_append (Line.cut block ∷ xs) ys = among_append xs ys
among_append (Line.year y ∷ xs) ys = among_append xs ys

-- the rows among the lines that stand on a page are the plant's
among_chosen : (id : ℕ) (ls : List Line) → rows_among (chosen id ls) ≡ rows_of_plant id (rows_among ls)
unfolding rows_among chosen on_page rows_of_plant
among_chosen id [] = refl
among_chosen id (Line.row r ∷ ls) = by (eqb r.id id) (among_chosen id ls)
  where
    by : (t : Bool) → rows_among (chosen id ls) ≡ rows_of_plant id (rows_among ls)
        → rows_among (cond t (Line.row r ∷ chosen id ls) (chosen id ls))
        ≡ cond t (r ∷ rows_of_plant id (rows_among ls)) (rows_of_plant id (rows_among ls))
    by true below = ap (λ rs. r ∷ rs) below
    by false below = below
among_chosen id (Line.pool p ∷ ls) = among_chosen id ls
among_chosen id (Line.refused block refusal ∷ ls) = among_chosen id ls
among_chosen id (Line.cut block ∷ ls) = among_chosen id ls
among_chosen id (Line.year y ∷ ls) = among_chosen id ls

-- a plant on the roster of a stream with an accepted opening
module _ (id : ℕ) (stream : List ℕ) (bytes : Bytes stream) (accepted : opened stream ≡ true)
    (known : on_roster id (opening_of stream) ≡ true) where
  -- the page has the lines above and the year
  page_lines_lem : page_lines id stream ≡ lines_above id stream ++ (Line.year (page_year id stream) ∷ [])
  unfolding page_lines
  page_lines_lem = rw (accepted, known)

  -- its rows are the plant's of the listing
  page_rows : rows_among (page_lines id stream) ≡ rows_of_plant id (rows_among (listed stream).printed)
  unfolding lines_above
  page_rows =
      ap rows_among page_lines_lem
      ∙ among_append (lines_above id stream) (Line.year (page_year id stream) ∷ [])
      ∙ unfold rows_among in append-nil (rows_among (lines_above id stream))
      ∙ among_chosen id (listed stream).printed

  -- the steps of the listing, from its first block on
  listed_is : listed stream ≡ over_next listing_steps (length stream) 0 ledger_buffer (next_block (most_bytes 0) stream)
  unfolding listed steps_over over_next listing_steps
  listed_is = ap (λ b. steps_over listing_steps b 0 ledger_buffer stream) (add-one (length stream))

  -- a sum that the plant's account holds is the sum over the lines above
  account_sum : (f : RowLine → ℕ) (g : GivenRow → ℕ)
      → ((interval : ℕ) (r : Row) (b : List ℕ) → figure_on f (row_line interval r.id b) ≡ g (given_at r b))
      → (held : Account → ℕ) → ((gs : List GivenRow) → held (account_by_rows gs id) ≡ sum_of_plant id g gs)
      → held (account_of id (ledger_of (listed stream).state).accounts) ≡ summed f (lines_above id stream)
  unfolding on_roster opened opening_of lines_above most_bytes
  account_sum f g same held is =
      let block = opening_of stream in
      let (calls, zero_ground, ledger, sums) = given_first f g same id (length stream)
      (next_block (most_bytes 0) stream) accepted in
      let y = after_calls (new_year (opening block ledger_buffer).ledger) calls in
      let accounts = (kept block ledger_buffer (next_bytes (most_bytes 0) stream bytes) zero_ground calls).sums.accounts in
      let own = found y.given id (block_of block).ids (found_member id (block_of block).ids known) in
      ap (λ o. held (account_of id (ledger_of o.state).accounts)) listed_is
      ∙ ap (λ b. held (account_of id (ledger_of b).accounts)) ledger
      ∙ ap (λ as'. held (account_of id as')) accounts
      ∙ ap held own ∙ is y.given ∙ sym sums ∙ sym (ap (λ o. summed f (chosen id o.printed)) listed_is)

  -- so the page holds what is stated
  page_holds : PageHolds id stream
  unfolding page_year year_of account_by_rows figure_on row_line
  page_holds = record {
    last = page_lines_lem;
    rows = page_rows;
    shortfall = refl;
    bonus = refl;
    charged = account_sum (λ r. r.charge) (λ g. g.charge) (λ interval r b. refl) (λ a. a.charged) (λ gs. refl);
    credited = account_sum (λ r. r.credit) (λ g. g.credit) (λ interval r b. refl) (λ a. a.credited) (λ gs. refl);
  }

-- a page has its plant's lines and their sums
pub page_of_a_plant : PageOfAPlant
unfolding PageOfAPlant
page_of_a_plant = page_holds
