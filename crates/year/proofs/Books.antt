-- A ledger whose accounts hold the sums of the rows given is one in order.
use Prim.Native.Nat.{ℕ, ◌+◌, ◌*◌, ◌^◌, ◌<◌, ◌≤◌}
use mathlib.Core.Path.{◌≡◌, refl, sym, ap, ◌∙◌, subst}
use mathlib.Core.Logic.{⊎_elim}
use mathlib.Core.List.Memᴰ
use mathlib.Core.List.{
  List,
  [],
  ◌∷◌,
  ◌++◌,
  map,
  map-map,
  map-id,
  Memᴰ,
}
use mathlib.Core.Bool.{Bool, true, false, cond}
use native.Mathlib.Omega.{arith}
use lib.ListN.{length, length-map, drop}
use lib.Dec.{eqb}
use borrow.Author.Tests.{eqb-true, eqb-false}
use Rattle.words.specs.Lists.{sum, rises_above}
use Rattle.words.specs.Words.{Bytes, word32}
use Rattle.words.proofs.Lists.{sum_map, sum_most}
use Rattle.words.proofs.Words.{number_at_lt, drop_bytes, entries_all}
use Rattle.reading.specs.Block.{id_bytes, most_ids, block_words, block_of, ids_out_of_order}
use Rattle.reading.specs.Interval.{intervals_per_day, most_kilowatts}
use Rattle.reading.proofs.Bounds.{terms_in_lem, ids_rise}
use Rattle.assessment.specs.Assessment.{most_cents, limit, Account, account_of, ChargedRow, Assessed}
use Rattle.assessment.proofs.Limits.{most_limit, limit_le}
use Rattle.ledger.specs.Ledger.{most_credited, Ledger, ids_in, ledger_terms_outside}
use Rattle.settling.specs.Settling.{posted_all}
use Rattle.year.specs.Year.{GivenRow, sum_of_plant, largest_of_plant, account_by_rows}
use Rattle.ledger.proofs.Sound.{terms_of_ledger, AccountIn, LedgerIn}
use Rattle.year.proofs.Given.{given_of}
use Rattle.year.proofs.PostedSums.{posted_all_lem}
use Rattle.year.proofs.Fits.{largest_le, part_le}
use Rattle.year.proofs.Totals.{parts_make_whole, largest_append, plant_append}

-- every id of a block of bytes fits its word
pub id_fits : (block : List ℕ) → Bytes block → (i : ℕ) → Memᴰ i (block_of block).ids → i < 2 ^ 64
unfolding block_of block_words word32
id_fits block bytes i m =
    let below = entries_all id_bytes (λ id. word32 id 0) (λ i. i < 2 ^ 32) (λ b bytes. number_at_lt 4 b 0 bytes)
    (word32 block 3) (drop (word32 block 4) block)
    (drop_bytes (word32 block 4) block bytes) i m in
    omega (arith, below)

-- the accounts of rows given have the ids that they are made of
pub ids_of_rows : (gs : List GivenRow) (is : List ℕ) → map (λ a. a.id) (map (account_by_rows gs) is) ≡ is
unfolding account_by_rows
ids_of_rows gs is = map-map (λ a. a.id) (account_by_rows gs) is ∙ map-id is

-- and the account of a listed id is found
pub found : (gs : List GivenRow) (i : ℕ) (is : List ℕ) → Memᴰ i is
    → account_of i (map (account_by_rows gs) is) ≡ account_by_rows gs i
unfolding account_of account_by_rows
found gs i [] m = absurd (Memᴰ.not-nil m)
found gs i (j ∷ is) m = by (eqb j i) refl (found gs i is)
  where
    by : (t : Bool) → eqb j i ≡ t → (Memᴰ i is → account_of i (map (account_by_rows gs) is) ≡ account_by_rows gs i)
        → cond t (account_by_rows gs j) (account_of i (map (account_by_rows gs) is)) ≡ account_by_rows gs i
    by true e below = ap (account_by_rows gs) (eqb-true j i e)
    by false e below = ⊎_elim (λ q. absurd (eqb-false j i e (sym q))) below (Memᴰ.cases_cons m)

-- posting rows to the account of earlier rows makes the account of all of them
posted_rows : (v : Assessed) (cs : List ChargedRow) (gs : List GivenRow) (i : ℕ)
    → posted_all v cs (account_by_rows gs i) ≡ account_by_rows (gs ++ map (given_of v) cs) i
unfolding account_by_rows
posted_rows v cs gs i =
    let p = posted_all_lem v cs (account_by_rows gs i) in
    let later = map (given_of v) cs in
    λ k. record {
      id = p.id k;
      largest = (p.largest ∙ sym (largest_append i gs later)) k;
      charged = (p.charged ∙ sym (plant_append i (λ g. g.charge) gs later)) k;
      credited = (p.credited ∙ sym (plant_append i (λ g. g.credit) gs later)) k;
    }

-- so posting rows to the accounts of earlier rows makes the accounts of all of them
pub posted_accounts : (v : Assessed) (cs : List ChargedRow) (gs : List GivenRow) (is : List ℕ)
    → map (posted_all v cs) (map (account_by_rows gs) is) ≡ map (account_by_rows (gs ++ map (given_of v) cs)) is
posted_accounts v cs gs is =
    map-map (posted_all v cs) (account_by_rows gs) is ∙ ap (λ (f : ℕ → Account). map f is) (λ k i. posted_rows v cs gs i k)

-- what rows given say of a ledger on a block
pub record Books (block : List ℕ) (l : Ledger) (gs : List GivenRow) : Type 0 where
  pub terms : l.terms ≡ (block_of block).terms
  pub accounts : l.accounts ≡ map (account_by_rows gs) (block_of block).ids
  pub closes : sum (λ g. g.charge) gs ≡ sum (λ g. g.credit) gs + l.carried
  pub limited : (i : ℕ) → Memᴰ i (block_of block).ids
      → sum_of_plant i (λ g. g.charge) gs ≤ limit (block_of block).terms (largest_of_plant i gs)
  pub known : (g : GivenRow) → Memᴰ g gs → Memᴰ g.id (block_of block).ids
  pub committed : (g : GivenRow) → Memᴰ g gs → g.committed ≤ most_kilowatts

-- a block whose terms and ids no ground refuses
pub record GoodBlock (block : List ℕ) : Type 0 where
  pub terms : ledger_terms_outside (block_of block).terms ≡ false
  pub ids : ids_out_of_order (block_of block).ids ≡ false
  pub some : 1 ≤ length (block_of block).ids
  pub few : length (block_of block).ids ≤ most_ids

module _ (block : List ℕ) (good : GoodBlock block) (l : Ledger) (gs : List GivenRow) (k : Books block l gs) where
  -- the ids of the block
  abbrev is : List ℕ
  is = (block_of block).ids

  -- the block's ids rise, and all are above 0
  rise : rises_above 0 is ≡ true
  rise = ids_rise is good.ids

  -- the ids of the ledger's accounts are those of the block, in its order
  pub same_ids : ids_in l ≡ is
  unfolding ids_in
  same_ids = ap (map (λ a. a.id)) k.accounts ∙ ids_of_rows gs is

  -- a sum over the accounts is the sum over the rows
  sum_accounts : (of : Account → ℕ) (f : GivenRow → ℕ) → ((i : ℕ) → of (account_by_rows gs i) ≡ sum_of_plant i f gs)
      → sum of l.accounts ≡ sum f gs
  sum_accounts of f each =
      ap (sum of) k.accounts ∙ sum_map of (account_by_rows gs) is ∙ ap (λ (g : ℕ → ℕ). sum g is) (λ i j. each j i)
      ∙ parts_make_whole f is rise gs k.known

  -- the charged sums of all accounts make up the charges of all rows given
  all_charged : sum (λ a. a.charged) l.accounts ≡ sum (λ g. g.charge) gs
  unfolding account_by_rows
  all_charged = sum_accounts (λ a. a.charged) (λ g. g.charge) (λ i. refl)

  -- the credited sums of all accounts make up the credits of all rows given
  all_credited : sum (λ a. a.credited) l.accounts ≡ sum (λ g. g.credit) gs
  unfolding account_by_rows
  all_credited = sum_accounts (λ a. a.credited) (λ g. g.credit) (λ i. refl)

  -- no plant's largest commitment is above the most kW of a row
  largest_in : (i : ℕ) → largest_of_plant i gs ≤ most_kilowatts
  largest_in i = largest_le i most_kilowatts gs k.committed

  -- all charges are at most the limits of all plants, and all credits at most all charges
  charges_in : sum (λ g. g.charge) gs ≤ most_credited
  charges_in =
      let t = terms_in_lem (block_of block).terms (terms_of_ledger (block_of block).terms good.terms) in
      let all = sum_most (λ i. sum_of_plant i (λ g. g.charge) gs) most_limit most_ids is good.few
      (λ i m. omega (arith, k.limited i m, limit_le (block_of block).terms (largest_of_plant i gs) t (largest_in i))) in
      omega (arith, parts_make_whole (λ g. g.charge) is rise gs k.known, all)

  -- ground 6 does not refuse the account that the rows given make of a listed id
  plant_in : (i : ℕ) → Memᴰ i is → AccountIn l.terms (account_by_rows gs i)
  unfolding account_by_rows
  plant_in i m = record {
    largest = largest_in i;
    charged = rw k.terms (k.limited i m);
    credited = omega (arith, part_le i (λ g. g.credit) gs, k.closes, charges_in);
  }

  -- a ledger with such books is in order, where its earliest interval and carried cents are within bounds
  pub in_order : l.earliest ≤ intervals_per_day * l.terms.days → l.carried ≤ most_cents → LedgerIn l
  in_order early small =
      let n : length l.accounts ≡ length is = ap length k.accounts ∙ length-map is (account_by_rows gs) in
      record {
        terms = rw k.terms good.terms;
        ids = rw same_ids good.ids;
        some = omega (arith, n, good.some);
        few = omega (arith, n, good.few);
        earliest = early;
        carried = small;
        accounts = λ a m. let (i, at, e) = Memᴰ.of_map (account_by_rows gs) is (subst (Memᴰ a) k.accounts m) in
            subst (AccountIn l.terms) e (plant_in i at);
        closes = omega (arith, all_charged, all_credited, k.closes);
      }
