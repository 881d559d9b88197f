-- What is proved of opening and settling; proofs/Claims.antt has the proof of each claim.
use Rattle.std.specs.Prelude.{ℕ, ◌+◌, ◌*◌, ◌<◌, ◌≤◌, ◌≡◌, ◌⊎◌, false, length, drop}
use mathlib.Core.List.{List, [], ◌∷◌, map, Memᴰ}
use Rattle.words.specs.Lists.{sum}
use Rattle.words.specs.Words.{Bytes, word64, words_in, written}
use Rattle.reading.specs.Block.{block_of}
use Rattle.assessment.specs.Assessment.{limit}
use Rattle.assessment.specs.Claims.{WithinTariff}
use Rattle.ledger.specs.Ledger.{ledger_of, ledger_words, not_a_ledger}
use Rattle.ledger.specs.Opening.{opened_ledger, OpeningAnswer, opening}
use Rattle.settling.specs.Settling.{result_words, assessed_file, settled_ledger, SettlingAnswer, settling}
use Rattle.event.specs.Event.{count_bytes, EventAnswer, event}
use Rattle.year.specs.Year.{
  Call,
  EventCall,
  AnyCall,
  event_calls,
  results_left,
  results_placed,
  GivenRow,
  GivenInterval,
  interval_by,
  Year,
  new_year,
  after_calls,
  after_all,
  sum_of_plant,
  largest_of_plant,
  account_by_rows,
  rows_with_bonus,
}

-- x is a member of xs
abbrev pub Member : {A : Type 0} → A → List A → Type 0
Member x xs = Memᴰ x xs

-- an interval given whose charges, credits and total bonus are the sums over its own rows
pub record SummedOverRows (i : GivenInterval) : Type 0 where
  pub charges : i.charges ≡ sum (λ g. g.charge) i.rows
  pub credits : i.credits ≡ sum (λ g. g.credit) i.rows
  pub bonus : i.bonus ≡ sum (λ g. g.bonus) i.rows

-- demand 3, of a year on an opening block
pub record SumsHold (block : List ℕ) (y : Year) : Type 0 where
  -- all charges given are all credits given plus the cents carried, word 4 of the ledger
  pub closes : sum (λ g. g.charge) y.given ≡ sum (λ g. g.credit) y.given + word64 y.ledger 4
  -- of every interval given, charges, credits and total bonus are the sums over its own rows
  pub intervals : (i : GivenInterval) → Member i y.intervals → SummedOverRows i
  -- the cents carried are those that the last interval says, and 0 before any interval
  pub carried : word64 y.ledger 4 ≡ y.last.carried
  -- after a file with bonus the cents carried are fewer than its rows with bonus
  pub rest : 0 < sum (λ g. g.bonus) y.last.rows → word64 y.ledger 4 < rows_with_bonus y.last.rows
  -- no row given has a shortfall and a bonus
  pub exclusive : (g : GivenRow) → Member g y.given → (g.shortfall ≡ 0) ⊎ (g.bonus ≡ 0)
  -- no plant's charges exceed the limit of its largest commitment so far
  pub limited : (i : ℕ) → Member i (block_of block).ids
      → sum_of_plant i (λ g. g.charge) y.given ≤ limit (block_of block).terms (largest_of_plant i y.given)
  -- which is 0.75 times Net CONE times days times MW in 2016, and 1.5 times in other years
  pub tariff : (i : ℕ) → Member i (block_of block).ids
      → WithinTariff (block_of block).terms (largest_of_plant i y.given) (sum_of_plant i (λ g. g.charge) y.given)
  -- the accounts are those of the block in its order, each with its largest commitment and the sums of its own charges
  -- and credits
  pub accounts : (ledger_of y.ledger).accounts ≡ map (account_by_rows y.given) (block_of block).ids
  -- every row given has an id of the block
  pub known : (g : GivenRow) → Member g y.given → Member g.id (block_of block).ids

-- The sums of a year, over every list of settling calls, with files and with events, from a freshly opened ledger
unfoldable pub SumsOfAYear : Type 0
SumsOfAYear =
    (block ledger : List ℕ) → Bytes block → (opening block ledger).refusal ≡ 0
    → (calls : List AnyCall) → SumsHold block (after_all (new_year (opening block ledger).ledger) calls)

-- Never refused on ground 6: so it is of the ledger after any such list
unfoldable pub NeverRefusedOnSix : Type 0
NeverRefusedOnSix =
    (block ledger : List ℕ) → Bytes block → (opening block ledger).refusal ≡ 0
    → (calls : List AnyCall) → not_a_ledger (after_all (new_year (opening block ledger).ledger) calls).ledger ≡ false

-- an event with an answer is these calls of settling, one after the other
pub record IsCalls (ledger : List ℕ) (e : EventCall) (a : EventAnswer) (calls : List Call) : Type 0 where
  -- it leaves the ledger that they leave, whatever was given before
  pub leaves : (y : Year) → y.ledger ≡ ledger → a.ledger ≡ (after_calls y calls).ledger
  -- its count is the number of those accepted
  pub counts : count_bytes ≤ length e.count → a.count ≡ written (length (results_left ledger calls) ∷ []) e.count
  -- the result of each accepted one stands at its place as that call left it
  pub results : results_placed (length (results_left ledger calls)) e.files a.result ≡ results_left ledger calls

-- An event is the calls of settling that it makes: for every ledger and all buffers
unfoldable pub EventIsCalls : Type 0
EventIsCalls =
    (ledger : List ℕ) (e : EventCall)
    → IsCalls ledger e (event ledger e.files e.result e.count) (event_calls ledger e)

-- a buffer after words were written to it: each word read back is the number meant, and the bytes beyond are as they
-- were
pub record Holds (words before after : List ℕ) : Type 0 where
  pub read_back : words_in (length words) after ≡ words
  pub beyond : drop (8 * length words) after ≡ drop (8 * length words) before

-- Read back, of opening: the ledger that an accepted call leaves
unfoldable pub OpeningReadsBack : Type 0
OpeningReadsBack =
    (block ledger : List ℕ) → Bytes block → (opening block ledger).refusal ≡ 0
    → Holds (ledger_words (opened_ledger block)) ledger (opening block ledger).ledger

-- what an accepted call of settling leaves
pub record ReadsBack (ledger file result : List ℕ) (a : SettlingAnswer) : Type 0 where
  pub ledger_holds : Holds (ledger_words (settled_ledger ledger file)) ledger a.ledger
  pub result_holds : Holds (result_words (assessed_file ledger file)) result a.result
  -- result words 1, 2 and 4 are the sums of the row words read back
  pub sums : SummedOverRows (interval_by file a.result)

-- Read back, of settling: for every call accepted on a ledger of bytes, a foreign one too
unfoldable pub SettlingReadsBack : Type 0
SettlingReadsBack =
    (ledger file result : List ℕ) → Bytes ledger → (settling ledger file result).refusal ≡ 0
    → ReadsBack ledger file result (settling ledger file result)

-- what holds of every answer of opening: 0, 1 to 5 or 23, a refusal changes no byte, the length never changes
pub record OpeningAnswers (ledger : List ℕ) (a : OpeningAnswer) : Type 0 where
  pub refusal : (a.refusal ≤ 5) ⊎ (a.refusal ≡ 23)
  pub refused : 0 < a.refusal → a.ledger ≡ ledger
  pub length_kept : length a.ledger ≡ length ledger

-- what holds of every answer of settling: 0, 6 to 16 or 18, a refusal changes no byte, the lengths never change
pub record SettlingAnswers (ledger result : List ℕ) (a : SettlingAnswer) : Type 0 where
  pub refusal : (a.refusal ≡ 0) ⊎ ((6 ≤ a.refusal) × ((a.refusal ≤ 16) ⊎ (a.refusal ≡ 18)))
  pub refused : 0 < a.refusal → (a.ledger ≡ ledger) × (a.result ≡ result)
  pub lengths_kept : (length a.ledger ≡ length ledger) × (length a.result ≡ length result)

-- Refusals, for every block, ledger, file and result buffer
unfoldable pub OpeningRefusals : Type 0
OpeningRefusals = (block ledger : List ℕ) → OpeningAnswers ledger (opening block ledger)

-- and of settling
unfoldable pub SettlingRefusals : Type 0
SettlingRefusals = (ledger file result : List ℕ) → SettlingAnswers ledger result (settling ledger file result)
