-- The sums of a year hold on a fresh ledger, and on after each accepted call.
use Prim.Native.Nat.{ℕ, ◌+◌, ◌^◌, ◌<◌, ◌≤◌, max}
use mathlib.Core.Path.{◌≡◌, refl, sym, ap, ◌∙◌, subst}
use mathlib.Core.Logic.{◌⊎◌, ⊎_elim}
use mathlib.Core.List.Memᴰ
use mathlib.Core.List.{
  List,
  [],
  ◌∷◌,
  ◌++◌,
  map,
  Memᴰ,
}
use mathlib.Core.Bool.{false, cond}
use native.Mathlib.Omega.{arith}
use lib.ListN.{length, length-map}
use lib.Dec.{ltb}
use Rattle.words.specs.Lists.{sum}
use Rattle.words.specs.Words.{Bytes, word64, written}
use Rattle.words.proofs.Lists.{sum_append, sum_map, found_member}
use Rattle.reading.specs.Block.{block_words, block_of}
use Rattle.reading.specs.Interval.{Row, header_of, rows_of}
use Rattle.reading.proofs.Bounds.{terms_in_lem, length_ids}
use Rattle.assessment.specs.Assessment.{
  Ratio,
  ratio_of,
  limit,
  empty_account,
  account_of,
  charged_row,
  Assessed,
  assessed,
  carried_on,
}
use Rattle.assessment.proofs.Promises.{exclusive}
use Rattle.assessment.proofs.Shares.{credits_le, carried_lt}
use Rattle.ledger.specs.Ledger.{standing_of, Ledger, ledger_bytes, ledger_of, ledger_words, ids_in, not_a_ledger}
use Rattle.ledger.specs.Opening.{opened_ledger}
use Rattle.settling.specs.Settling.{assessed_file, posted_all, settled_ledger, settling}
use Rattle.year.specs.Year.{
  Call,
  GivenRow,
  GivenInterval,
  Year,
  new_year,
  after_answer,
  sum_of_plant,
  largest_of_plant,
  account_by_rows,
  rows_with_bonus,
}
use Rattle.year.specs.Claims.{SummedOverRows, SumsHold}
use Rattle.ledger.proofs.Sound.{terms_of_ledger, year_of_ledger, BlockAccepted, ledger_room}
use Rattle.settling.proofs.Accepted.{Accepted, accepted}
use Rattle.settling.proofs.SettledLaws.{charged_of}
use Rattle.year.proofs.LedgerBack.{AccountFits, LedgerFits, ledger_back, written_holds}
use Rattle.year.proofs.Given.{given_of}
use Rattle.year.proofs.Fits.{
  new,
  new_charges,
  new_credits,
  new_bonus,
  new_interval,
  new_sums,
  pool_is,
  from_row,
  new_committed,
  ledger_fits,
  interval_made,
}
use Rattle.year.proofs.Totals.{largest_append, plant_append}
use Rattle.assessment.proofs.Limits.{within_tariff}
use Rattle.year.proofs.Limits.{within_limit}
use Rattle.settling.proofs.SettlingAnswers.{settled_answer}
use Rattle.ledger.proofs.OpeningAnswers.{opened_answer}
use Rattle.year.proofs.Books.{id_fits, found, posted_accounts, Books, GoodBlock, same_ids, in_order}

-- what every call keeps
pub record Kept (block : List ℕ) (y : Year) : Type 0 where
  pub sums : SumsHold block y
  pub books : Books block (ledger_of y.ledger) y.given
  pub holds : not_a_ledger y.ledger ≡ false

-- no ground refuses the terms and ids of a block that opening accepts
pub good_block : (block ledger : List ℕ) → BlockAccepted block ledger → GoodBlock block
good_block block ledger s =
    let n = length_ids block in
    record { terms = s.terms; ids = s.ids; some = omega (arith, n, s.some); few = omega (arith, n, s.few) }

-- word 4 of a ledger is the cents that it carries
carried_word : (b : List ℕ) → word64 b 4 ≡ (ledger_of b).carried
unfolding ledger_of standing_of
carried_word b = refl

-- an accepted call on a year that keeps the sums
module _ (block : List ℕ) (bytes : Bytes block) (good : GoodBlock block) (y : Year) (k : Kept block y) (c : Call)
    (e : (settling y.ledger c.file c.result).refusal ≡ 0) where
  -- the ledger before the call
  abbrev l : Ledger
  l = ledger_of y.ledger

  -- the rows of the file
  abbrev rs : List Row
  rs = rows_of c.file

  -- the balancing ratio of the file
  abbrev q : Ratio
  q = ratio_of (header_of c.file) rs

  -- the interval that the file makes of the ledger
  abbrev v : Assessed
  v = assessed_file y.ledger c.file

  -- the rows that the interval gives
  abbrev gs : List GivenRow
  gs = new y.ledger c.file

  -- the ledger, the file and the result buffer are ones that settling accepts
  s : Accepted y.ledger c.file c.result
  s = accepted y.ledger c.file c.result e

  -- the ledger after the call
  abbrev after : Ledger
  after = settled_ledger y.ledger c.file

  -- the values of the ledger after the call fit 64 bits
  after_fits : LedgerFits after
  unfolding account_by_rows
  after_fits = ledger_fits y.ledger c.file s
      (λ a m. let (i, at, p) = Memᴰ.of_map (account_by_rows y.given) (block_of block).ids
      (subst (Memᴰ a) k.books.accounts m) in
      subst (λ a. a.id < 2 ^ 64) p (id_fits block bytes i at))

  -- the sums with the rows given added
  new_accounts : after.accounts ≡ map (account_by_rows (y.given ++ gs)) (block_of block).ids
  unfolding settled_ledger
  new_accounts =
      ap (map (posted_all v v.rows)) k.books.accounts
      ∙ posted_accounts v v.rows y.given (block_of block).ids

  -- all charges given are all credits given plus the cents carried after the call
  new_closes : sum (λ g. g.charge) (y.given ++ gs) ≡ sum (λ g. g.credit) (y.given ++ gs) + after.carried
  unfolding settled_ledger carried_on
  new_closes =
      let charged = new_charges y.ledger c.file in
      let credited = new_credits y.ledger c.file in
      rw (sum_append (λ g. g.charge) y.given gs, sum_append (λ g. g.credit) y.given gs)
      (omega (arith, k.books.closes, charged, credited, pool_is y.ledger c.file, credits_le v))

  -- a plant's charges so far and in the file stay under the limit of its largest commitment in both
  under_limit : (i : ℕ) → Memᴰ i (block_of block).ids
      → sum_of_plant i (λ g. g.charge) y.given + sum_of_plant i (λ g. g.charge) gs
      ≤ limit l.terms (max (largest_of_plant i y.given) (largest_of_plant i gs))
  unfolding assessed_file assessed account_by_rows
  under_limit i m =
      let own : account_of i l.accounts ≡ account_by_rows y.given i = ap (account_of i) k.books.accounts
      ∙ found y.given i (block_of block).ids m in
      let step = subst (λ a. a.charged ≤ limit l.terms a.largest
      → a.charged + sum_of_plant i (λ g. g.charge) gs ≤ limit l.terms (max a.largest (largest_of_plant i gs))) own
      (within_limit v l.terms l.accounts (header_of c.file).region_wide q i rs s.ids_rise) in
      step (rw k.books.terms (k.books.limited i m))

  -- with the new rows added, no listed plant's charges exceed the limit of its largest commitment
  new_limited : (i : ℕ) → Memᴰ i (block_of block).ids
      → sum_of_plant i (λ g. g.charge) (y.given ++ gs)
      ≤ limit (block_of block).terms (largest_of_plant i (y.given ++ gs))
  new_limited i m =
      rw (plant_append i (λ g. g.charge) y.given gs, largest_append i y.given gs)
      (subst (λ t. sum_of_plant i (λ g. g.charge) y.given + sum_of_plant i (λ g. g.charge) gs
      ≤ limit t (max (largest_of_plant i y.given) (largest_of_plant i gs)))
      k.books.terms (under_limit i m))

  -- every new row has an id of the block
  new_known : (g : GivenRow) → Memᴰ g gs → Memᴰ g.id (block_of block).ids
  unfolding given_of charged_of charged_row
  new_known g m =
      let (r, at, p) = from_row y.ledger c.file g m in
      let id_in = found_member r.id (ids_in l) (s.ids_known r at) in
      subst (λ g. Memᴰ g.id (block_of block).ids) p
      (subst (Memᴰ r.id) (same_ids block good l y.given k.books) id_in)

  -- no new row has a shortfall and a bonus
  new_exclusive : (g : GivenRow) → Memᴰ g gs → (g.shortfall ≡ 0) ⊎ (g.bonus ≡ 0)
  unfolding given_of charged_of charged_row
  new_exclusive g m =
      let (r, at, p) = from_row y.ledger c.file g m in
      subst (λ g. (g.shortfall ≡ 0) ⊎ (g.bonus ≡ 0)) p (exclusive (header_of c.file).region_wide q r)

  -- the ledger after the call has the books of the earlier and the new rows
  new_books : Books block after (y.given ++ gs)
  unfolding settled_ledger
  new_books = record {
    terms = k.books.terms;
    accounts = new_accounts;
    closes = new_closes;
    limited = new_limited;
    known = λ g m. ⊎_elim (k.books.known g) (new_known g) (Memᴰ.append_cases y.given m);
    committed = λ g m. ⊎_elim (k.books.committed g) (new_committed y.ledger c.file s g)
        (Memᴰ.append_cases y.given m);
  }

  -- where the new rows have bonus, the cents carried are fewer than the rows with bonus
  new_rest : 0 < sum (λ g. g.bonus) gs → carried_on v < rows_with_bonus gs
  unfolding rows_with_bonus given_of
  new_rest p =
      let some = rw (new_bonus y.ledger c.file) at p in
      rw (sum_map (λ g. cond (ltb 0 g.bonus) 1 0) (given_of v) v.rows) (carried_lt v some)

  -- the interval given has the sums over its own rows
  new_summed : (i : GivenInterval) → Memᴰ i (new_interval y.ledger c.file ∷ []) → SummedOverRows i
  new_summed i m = subst SummedOverRows (sym (Memᴰ.eq_of_singleton m)) (new_sums y.ledger c.file)

  -- ground 6 does not refuse the ledger that is left
  left_holds : not_a_ledger (written (ledger_words after) y.ledger) ≡ false
  unfolding settled_ledger
  left_holds =
      let room = ledger_room y.ledger k.holds in
      let n = length-map l.accounts (posted_all v v.rows) in
      let early = s.header.interval in
      written_holds after y.ledger after_fits (rw n room)
      (in_order block good after (y.given ++ gs) new_books (omega (arith, early, s.days))
      (unfold carried_on in omega (arith, s.pool)))

  -- so an accepted call keeps the sums, the books, and a ledger that ground 6 does not refuse
  pub accept_kept : Kept block (after_answer y c (settled_answer y.ledger c.file c.result))
  unfolding after_answer settled_ledger
  accept_kept =
      let left = written (ledger_words after) y.ledger in
      let back : ledger_of left ≡ after = ledger_back after y.ledger after_fits in
      let carried : word64 left 4 ≡ carried_on v = carried_word left ∙ ap (λ l. l.carried) back in
      let books = subst (λ l. Books block l (y.given ++ gs)) (sym back) new_books in
      subst (λ i. Kept block (record { ledger = left; intervals = y.intervals ++ (i ∷ []); given = y.given ++ i.rows; last = i }))
      (sym (interval_made y.ledger c.file s))
      (record {
        sums = record {
          closes = rw carried new_closes;
          intervals = λ i m. ⊎_elim (k.sums.intervals i) (new_summed i) (Memᴰ.append_cases y.intervals m);
          carried = carried;
          rest = λ p. rw carried (new_rest p);
          exclusive = λ g m. ⊎_elim (k.sums.exclusive g) (new_exclusive g) (Memᴰ.append_cases y.given m);
          limited = new_limited;
          tariff = λ i m. within_tariff (block_of block).terms _ _ (new_limited i m);
          accounts = books.accounts;
          known = books.known;
        };
        books = books;
        holds = left_holds;
      })

-- a freshly opened ledger
module _ (block ledger : List ℕ) (s : BlockAccepted block ledger) where
  -- the ledger that opening makes of the block
  abbrev opened : Ledger
  opened = opened_ledger block

  -- the empty accounts of ids are their accounts by no rows
  empty_accounts : (is : List ℕ) → map empty_account is ≡ map (account_by_rows []) is
  unfolding empty_account account_by_rows sum_of_plant largest_of_plant sum
  empty_accounts is = refl

  -- an opened ledger has the books of no rows
  opened_books : Books block opened []
  unfolding opened_ledger sum sum_of_plant largest_of_plant
  opened_books = record {
    terms = refl;
    accounts = empty_accounts (block_of block).ids;
    closes = omega arith;
    limited = λ i m. omega arith;
    known = λ g m. absurd (Memᴰ.not-nil m);
    committed = λ g m. absurd (Memᴰ.not-nil m);
  }

  -- it has as many accounts as the block has ids
  opened_length : length opened.accounts ≡ (block_words block).id_count
  unfolding opened_ledger
  opened_length = length-map (block_of block).ids empty_account ∙ length_ids block

  -- its values fit 64 bits, where the block is one of bytes
  pub opened_fits : Bytes block → LedgerFits opened
  unfolding opened_ledger empty_account
  opened_fits bytes =
      let t = terms_in_lem (block_of block).terms (terms_of_ledger (block_of block).terms s.terms) in
      record {
        net_cone = omega (arith, t.net_cone);
        days = omega (arith, t.days);
        year = omega (arith, year_of_ledger (block_of block).terms s.terms);
        earliest = omega arith;
        carried = omega arith;
        count = omega (arith, opened_length, s.few);
        accounts = λ a m. let (i, at, e) = Memᴰ.of_map empty_account (block_of block).ids m in
            subst AccountFits e (record { id = id_fits block bytes i at; largest = omega arith; charged = omega arith; credited = omega arith });
      }

  -- the ledger buffer has room for it
  pub opened_room : ledger_bytes (length opened.accounts) ≤ length ledger
  opened_room = rw opened_length s.room

  -- a new year on it has what every call keeps
  pub opened_kept : Bytes block → Kept block (new_year (opened_answer block ledger).ledger)
  unfolding new_year sum opened_ledger
  opened_kept bytes =
      let left = written (ledger_words opened) ledger in
      let back : ledger_of left ≡ opened = ledger_back opened ledger (opened_fits bytes) in
      let books = subst (λ l. Books block l []) (sym back) opened_books in
      record {
        sums = record {
          closes = rw (carried_word left) books.closes;
          intervals = λ i m. absurd (Memᴰ.not-nil m);
          carried = carried_word left ∙ ap (λ l. l.carried) back;
          rest = λ p. omega arith;
          exclusive = λ g m. absurd (Memᴰ.not-nil m);
          limited = books.limited;
          tariff = λ i m. within_tariff (block_of block).terms _ _ (books.limited i m);
          accounts = books.accounts;
          known = books.known;
        };
        books = books;
        holds = written_holds opened ledger (opened_fits bytes) opened_room
            (in_order block (good_block block ledger s) opened [] opened_books (unfold opened_ledger in omega arith) (unfold opened_ledger in omega arith));
      }
