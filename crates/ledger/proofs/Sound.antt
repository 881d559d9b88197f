-- What is known of a block, a ledger and its values where no ground applies.
use Prim.Native.Nat.{ℕ, ◌+◌, ◌*◌, ◌≤◌, ◌<◌}
use mathlib.Core.Path.{◌≡◌, refl, ◌∙◌, sym, ap}
use mathlib.Core.List.{List, Memᴰ}
use mathlib.Core.Bool.{Bool, true, false, cond, not, ◌&&◌, and-false}
use native.Mathlib.Omega.{arith}
use lib.ListN.{length, drop}
use lib.Seq.{drop-drop}
use lib.Dec.{eqb}
use borrow.Author.Tests.{eqb-true}
use Rattle.words.specs.Lists.{sum, any, rises}
use Rattle.words.specs.Grounds.{answered, outside, lies_from}
use Rattle.words.specs.Words.{word32}
use Rattle.words.proofs.Tests.{facts, not_outside, not_second}
use Rattle.words.proofs.Lists.{none_passes}
use Rattle.words.proofs.Grounds.{none_applies}
use Rattle.reading.specs.Block.{
  yearless_format,
  block_header_bytes,
  common_year,
  most_ids,
  id_bytes,
  transition_year,
  first_year,
  last_year,
  Terms,
  year_named,
  block_words,
  block_of,
  not_a_block,
  terms_outside,
  year_outside,
  year_unknown,
  ids_misplaced,
  ids_out_of_order,
}
use Rattle.reading.specs.Interval.{intervals_per_day, most_kilowatts}
use Rattle.reading.specs.Values.{terms_in}
use Rattle.reading.proofs.Bounds.{ids_few}
use Rattle.reading.proofs.Facts.{block_has_header}
use Rattle.reading.proofs.Tables.{none_entry}
use Rattle.assessment.specs.Assessment.{most_cents, Account, limit}
use Rattle.ledger.specs.Ledger.{
  ledger_header_bytes,
  account_bytes,
  most_credited,
  standing_of,
  Ledger,
  ledger_bytes,
  account_at,
  account_count,
  ledger_of,
  ids_in,
  ledger_terms_outside,
  account_outside,
  does_not_close,
  not_a_ledger,
}
use Rattle.ledger.specs.Opening.{OpeningAnswer, ledger_too_short, opening_grounds, opening}
use Rattle.ledger.specs.Values.{standing_in, LedgerRead}
use Rattle.ledger.specs.declared.layout.Standing.{Standing as StandingValue}
use Rattle.ledger.proofs.Accounts.{length_accounts}

-- an answer of 0 is the answer of the list of grounds
pub ground_zero : {A : Type 0} (g : ℕ) (refusal : A → ℕ) (taken refused : A) → refusal refused ≡ g
    → refusal (cond (eqb g 0) taken refused) ≡ 0 → g ≡ 0
ground_zero g refusal taken refused same e = by (eqb g 0) refl e
  where
    by : (t : Bool) → eqb g 0 ≡ t → refusal (cond t taken refused) ≡ 0 → g ≡ 0
    by true q z = eqb-true g 0 q
    by false q z = sym same ∙ z

-- terms that a ledger may have are in range
pub terms_of_ledger : (t : Terms) → ledger_terms_outside t ≡ false → terms_outside t ≡ false
unfolding ledger_terms_outside
terms_of_ledger t e = search facts

-- and its year is at most the last
pub year_of_ledger : (t : Terms) → ledger_terms_outside t ≡ false → t.year ≤ last_year
unfolding ledger_terms_outside year_outside
year_of_ledger t e =
    by (eqb t.year 0) refl (eqb t.year transition_year) refl
    (not_second (terms_outside t) (not (eqb t.year 0) && year_outside t) e)
  where
    tested : Bool → Bool
    tested transition = cond transition (not (eqb t.days common_year)) (outside first_year last_year t.year)

    by : (none : Bool) → eqb t.year 0 ≡ none → (transition : Bool) → eqb t.year transition_year ≡ transition
        → (not none && tested transition) ≡ false → t.year ≤ last_year
    by true p transition q out = omega (arith, eqb-true t.year 0 p)
    by false p true q out = omega (arith, eqb-true t.year transition_year q)
    by false p false q out = (not_outside first_year last_year t.year out).1

-- terms that grounds 2 and 23 do not refuse are terms that a ledger may have
terms_of_block : (b : List ℕ) → terms_outside (block_of b).terms ≡ false → year_unknown (block_words b) ≡ false
    → ledger_terms_outside (block_of b).terms ≡ false
unfolding ledger_terms_outside year_unknown block_of block_words year_named
terms_of_block b inside known = by (eqb (word32 b 0) yearless_format) refl known
  where
    named : Bool → ℕ
    named yearless = cond yearless 0 (word32 b 5)

    terms : Bool → Terms
    terms yearless = record { net_cone = word32 b 1; days = word32 b 2; year = named yearless }

    by : (yearless : Bool) → eqb (word32 b 0) yearless_format ≡ yearless
        → (not yearless && year_outside (terms yearless)) ≡ false
        → ledger_terms_outside (block_of b).terms ≡ false
    by true e out = rw (inside, e)
    by false e out = rw (inside, e, out, and-false)

-- a block and a ledger buffer that opening accepts
pub record BlockAccepted (block ledger : List ℕ) : Type 0 where
  pub header : block_header_bytes (block_words block).format ≤ length block
  pub terms : ledger_terms_outside (block_of block).terms ≡ false
  pub some : 1 ≤ (block_words block).id_count
  pub few : (block_words block).id_count ≤ most_ids
  pub placed : (block_words block).ids_offset + id_bytes * (block_words block).id_count ≤ length block
  pub ids : ids_out_of_order (block_of block).ids ≡ false
  pub room : ledger_bytes (block_words block).id_count ≤ length ledger

-- where a call of opening answers 0, none of its grounds applies
pub opening_none : (block ledger : List ℕ) → (opening block ledger).refusal ≡ 0
    → answered (opening_grounds block ledger) ≡ 0
unfolding opening
opening_none block ledger e =
    ground_zero {A = OpeningAnswer} (answered (opening_grounds block ledger)) (λ a. a.refusal) _ _ refl e

-- where no ground of opening applies, the block keeps its bounds and the buffer has room for its ledger
pub block_accepted : (block ledger : List ℕ) → answered (opening_grounds block ledger) ≡ 0 → BlockAccepted block ledger
unfolding opening_grounds any ledger_too_short ids_misplaced lies_from
block_accepted block ledger e =
    let none = none_applies (opening_grounds block ledger) refl e in
    let g1 : not_a_block block ≡ false = search facts depth 12 in
    let g2 : terms_outside (block_of block).terms ≡ false = search facts depth 12 in
    let g23 : year_unknown (block_words block) ≡ false = search facts depth 12 in
    let g3 : ids_misplaced block ≡ false = search facts depth 12 in
    record {
      header = block_has_header block g1;
      terms = terms_of_block block g2 g23;
      some = (ids_few block g3).0;
      few = (ids_few block g3).1;
      placed = search facts depth 12;
      ids = search facts depth 12;
      room = search facts depth 12;
    }

-- an account that ground 6 does not refuse
pub record AccountIn (t : Terms) (a : Account) : Type 0 where
  pub largest : a.largest ≤ most_kilowatts
  pub charged : a.charged ≤ limit t a.largest
  pub credited : a.credited ≤ most_credited

-- an account that is not outside keeps the bounds of its commitment, charged sum and credited sum
pub account_in_lem : (t : Terms) (a : Account) → account_outside t a ≡ false → AccountIn t a
unfolding account_outside
account_in_lem t a e = record { largest = search facts; charged = search facts; credited = search facts }

-- a ledger that ground 6 does not refuse
pub record LedgerIn (l : Ledger) : Type 0 where
  pub terms : ledger_terms_outside l.terms ≡ false
  pub ids : ids_out_of_order (ids_in l) ≡ false
  pub some : 1 ≤ length l.accounts
  pub few : length l.accounts ≤ most_ids
  pub earliest : l.earliest ≤ intervals_per_day * l.terms.days
  pub carried : l.carried ≤ most_cents
  pub accounts : (a : Account) → Memᴰ a l.accounts → AccountIn l.terms a
  pub closes : sum (λ a. a.charged) l.accounts ≡ sum (λ a. a.credited) l.accounts + l.carried

-- where the closing test does not refuse, charged sums are credited sums plus carried
closes_of : (l : Ledger) → does_not_close l ≡ false
    → sum (λ a. a.charged) l.accounts ≡ sum (λ a. a.credited) l.accounts + l.carried
unfolding does_not_close
closes_of l e = search facts

-- bytes that ground 6 does not refuse hold a ledger within all its bounds, whose sums close
pub ledger_in : (b : List ℕ) → not_a_ledger b ≡ false → LedgerIn (ledger_of b)
unfolding not_a_ledger
ledger_in b e =
    let range : outside 1 most_ids (account_count b) ≡ false = search facts depth 20 in
    let number = not_outside 1 most_ids (account_count b) range in
    let n = length_accounts b in
    let all : any (account_outside (ledger_of b).terms) (ledger_of b).accounts ≡ false = search facts depth 20 in
    let close : does_not_close (ledger_of b) ≡ false = search facts depth 20 in
    record {
      terms = search facts depth 20;
      ids = search facts depth 20;
      some = omega (arith, n, number.0);
      few = omega (arith, n, number.1);
      earliest = search facts depth 20;
      carried = search facts depth 20;
      accounts = λ a m. account_in_lem (ledger_of b).terms a (none_passes (account_outside (ledger_of b).terms) m all);
      closes = closes_of (ledger_of b) close;
    }

-- bytes that ground 6 does not refuse have room for all accounts of their ledger
pub ledger_room : (b : List ℕ) → not_a_ledger b ≡ false → ledger_bytes (length (ledger_of b).accounts) ≤ length b
unfolding not_a_ledger
ledger_room b e =
    let room : ledger_bytes (account_count b) ≤ length b = search facts depth 20 in
    rw (length_accounts b) room

-- what a value read from a ledger says: its terms, its earliest interval, its carried cents and its number of accounts
pub record Said (b : List ℕ) (s : StandingValue) : Type 0 where
  pub terms : terms_in s.terms ≡ (ledger_of b).terms
  pub days : s.terms.days ≡ (ledger_of b).terms.days
  pub earliest : s.earliest ≡ (ledger_of b).earliest
  pub carried : s.carried.0 ≡ (ledger_of b).carried
  pub count : s.accounts ≡ account_count b
  pub number : length (ledger_of b).accounts ≡ s.accounts

-- a value that says what stands before the accounts says each of these
pub said : (b : List ℕ) (s : StandingValue) → standing_in s ≡ standing_of b → Said b s
unfolding standing_in terms_in ledger_of account_count
said b s says =
    let count = ap (λ t. t.account_count) says in
    record {
      terms = ap (λ t. t.terms) says;
      days = ap (λ t. t.terms.days) says;
      earliest = ap (λ t. t.earliest) says;
      carried = ap (λ t. t.carried) says;
      count = count;
      number = length_accounts b ∙ sym count;
    }

-- a value read from a ledger that ground 6 does not refuse keeps the bounds of all its words,
-- and the ledger those of its ids and accounts
pub ledger_read : (b : List ℕ) (s : StandingValue) → not_a_ledger b ≡ false → standing_in s ≡ standing_of b → LedgerRead b s
unfolding not_a_ledger
ledger_read b s e says =
    let said = said b s says in
    let range : outside 1 most_ids (account_count b) ≡ false = search facts depth 20 in
    let room : ledger_bytes (account_count b) ≤ length b = search facts depth 20 in
    let outside : ledger_terms_outside (ledger_of b).terms ≡ false = search facts depth 20 in
    let terms = terms_of_ledger (ledger_of b).terms outside in
    let earliest : (ledger_of b).earliest ≤ intervals_per_day * (ledger_of b).terms.days = search facts depth 20 in
    let carried : (ledger_of b).carried ≤ most_cents = search facts depth 20 in
    record {
      says = says;
      few = rw said.count (not_outside 1 most_ids (account_count b) range).1;
      room = rw said.count room;
      terms = rw said.terms terms;
      earliest = omega (arith, said, earliest);
      carried = omega (arith, said, carried);
      ids = search facts depth 20;
      accounts = search facts depth 20;
    }

-- what is known besides, where a value and its ledger keep their bounds
module _ {b : List ℕ} {s : StandingValue} (h : LedgerRead b s) where
  -- the ledger's ids rise
  pub read_rises : rises (ids_in (ledger_of b)) ≡ true
  unfolding ids_out_of_order
  read_rises = let ids = h.ids in search facts

  -- each account keeps its bounds
  pub read_account : (j : ℕ) → j < s.accounts → AccountIn (ledger_of b).terms (account_at (drop (ledger_bytes j) b))
  unfolding ledger_of account_count ledger_bytes
  read_account j low =
      let t = (ledger_of b).terms in
      let place = drop-drop (account_bytes * j) ledger_header_bytes b in
      let none =
      none_entry account_bytes account_at (account_outside t) (account_count b) (drop ledger_header_bytes b) j
      h.accounts (omega (arith, said b s h.says)) in
      account_in_lem t (account_at (drop (ledger_bytes j) b)) (rw place at none)
