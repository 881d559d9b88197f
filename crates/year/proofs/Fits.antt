-- What an accepted call writes fits its words, and so is read back.
use Prim.Native.Nat.{ℕ, ◌+◌, ◌*◌, ◌^◌, ◌<◌, ◌≤◌, max}
use mathlib.Core.Path.{◌≡◌, refl, sym, subst}
use mathlib.Core.List.Memᴰ
use mathlib.Core.List.{List, [], ◌∷◌, map, Memᴰ}
use mathlib.Core.Bool.{Bool, true, false, cond}
use native.Mathlib.Omega.{arith}
use lib.ListN.{length, length-map, drop, get_or}
use lib.Dec.{eqb}
use Rattle.words.specs.Lists.{sum}
use Rattle.words.specs.Words.{number_at, word64, written}
use Rattle.words.proofs.Words.{word_back}
use Rattle.words.proofs.Lists.{sum_le, sum_map, below_cons}
use Rattle.reading.specs.Interval.{most_kilowatts, Row, header_of, rows_of}
use Rattle.reading.proofs.Bounds.{terms_in_lem}
use Rattle.assessment.specs.Assessment.{
  most_cents,
  most_actual,
  ratio_of,
  printed_ratio,
  Account,
  ChargedRow,
  charged_row,
  Assessed,
  assessed,
  charges,
  total_bonus,
  pool,
  credit,
  credits,
  carried_on,
}
use Rattle.assessment.proofs.Promises.{FiguresIn, figures_in_lem, printed_le, numerator_le, denominator_le}
use Rattle.assessment.proofs.Limits.{limit_le}
use Rattle.assessment.proofs.Shares.{credits_le}
use Rattle.ledger.specs.Ledger.{ledger_of}
use Rattle.ledger.proofs.Sound.{terms_of_ledger, year_of_ledger}
use Rattle.settling.specs.Settling.{summary_words, result_words, assessed_file, posted_all, settled_ledger}
use Rattle.settling.proofs.Accepted.{Accepted}
use Rattle.settling.proofs.SettledLaws.{charged_of, rows_are, rows_count, bonus_fits}
use Rattle.year.specs.Year.{GivenRow, GivenInterval, given_by, interval_by, sum_of_plant, largest_of_plant}
use Rattle.year.specs.Claims.{SummedOverRows}
use Rattle.year.proofs.LedgerBack.{Fits, AccountFits, LedgerFits}
use Rattle.year.proofs.Given.{given_of, GivenFits, given_back}
use Rattle.year.proofs.PostedSums.{posted_all_lem}
use Rattle.year.proofs.ResultWords.{RowWithin, row_within, rows_words_below}

-- one plant's part of a sum
pub part_le : (i : ℕ) (f : GivenRow → ℕ) (gs : List GivenRow) → sum_of_plant i f gs ≤ sum f gs
unfolding sum_of_plant
part_le i f gs = sum_le (λ g. cond (eqb g.id i) (f g) 0) f gs (λ g. by g (eqb g.id i))
  where
    by : (g : GivenRow) (t : Bool) → cond t (f g) 0 ≤ f g
    by g true = omega arith
    by g false = omega arith

-- a plant's largest commitment among rows of at most so many kW
pub largest_le : (i most : ℕ) (gs : List GivenRow) → ((g : GivenRow) → Memᴰ g gs → g.committed ≤ most)
    → largest_of_plant i gs ≤ most
unfolding largest_of_plant
largest_le i most [] each = omega arith
largest_le i most (g ∷ gs) each = by (eqb g.id i) (largest_le i most gs (λ s m. each s (Memᴰ.tail m)))
  where
    by : (t : Bool) → largest_of_plant i gs ≤ most → max (cond t g.committed 0) (largest_of_plant i gs) ≤ most
    by true below = omega (arith, each g (Memᴰ.head refl))
    by false below = omega arith

-- the interval that a file makes of a ledger
module _ (ledger file : List ℕ) where
  -- the interval
  abbrev v : Assessed
  v = assessed_file ledger file

  -- what its rows are given
  abbrev pub new : List GivenRow
  new = map (given_of v) v.rows

  -- the charges of the rows given add up to the interval's charges
  pub new_charges : sum (λ g. g.charge) new ≡ charges v
  unfolding charges given_of
  new_charges = sum_map (λ g. g.charge) (given_of v) v.rows

  -- the credits of the rows given add up to the interval's credits
  pub new_credits : sum (λ g. g.credit) new ≡ credits v
  unfolding credits given_of
  new_credits = sum_map (λ g. g.credit) (given_of v) v.rows

  -- the bonus of the rows given adds up to the interval's total bonus
  pub new_bonus : sum (λ g. g.bonus) new ≡ total_bonus v
  unfolding total_bonus given_of
  new_bonus = sum_map (λ g. g.bonus) (given_of v) v.rows

  -- the interval as it is given
  abbrev pub new_interval : GivenInterval
  new_interval =
      record { charges = charges v; credits = credits v; carried = carried_on v; bonus = total_bonus v; rows = new }

  -- its charges, credits and total bonus are the sums over its rows
  pub new_sums : SummedOverRows new_interval
  new_sums = record { charges = sym new_charges; credits = sym new_credits; bonus = sym new_bonus }

  -- the pool is the cents carried in the ledger plus the charges of the interval
  pub pool_is : pool v ≡ (ledger_of ledger).carried + charges v
  unfolding pool assessed_file assessed
  pool_is = refl

  -- a row given comes from a row of the file
  pub from_row : (g : GivenRow) → Memᴰ g new
      → (r : Row) × Memᴰ r (rows_of file) × (given_of v (charged_of ledger file r) ≡ g)
  from_row g m =
      let (c, at, e) = Memᴰ.of_map (given_of v) v.rows m in
      let (r, r_at, q) = Memᴰ.of_map (charged_of ledger file) (rows_of file)
      (subst (Memᴰ c) (rows_are ledger file) at) in
      (r, r_at, subst (λ c. given_of v c ≡ g) (sym q) e)

  -- where settling accepts the file
  module _ {result : List ℕ} (s : Accepted ledger file result) where
    -- the figures, the charge and the credit of a charged row are within their bounds
    rows_within : (c : ChargedRow) → Memᴰ c v.rows → RowWithin most_cents (credit v) c
    unfolding charged_of charged_row
    rows_within c m =
        let (r, at, e) = Memᴰ.of_map (charged_of ledger file) (rows_of file)
        (subst (Memᴰ c) (rows_are ledger file) m) in
        let figures = figures_in_lem (header_of file).region_wide (ratio_of (header_of file) (rows_of file)) r (s.rows r at) in
        row_within v most_cents s.pool c m (subst (λ c. FiguresIn c.figures) e figures)

    -- what a row of the file is given fits 64 bits
    row_fits : (r : Row) → Memᴰ r (rows_of file) → GivenFits (given_of v (charged_of ledger file r))
    unfolding given_of
    row_fits r m =
        let at = subst (Memᴰ (charged_of ledger file r)) (sym (rows_are ledger file))
        (Memᴰ.map (charged_of ledger file) m) in
        let c = rows_within (charged_of ledger file r) at in
        record {
          shortfall = omega (arith, c.figures.shortfall);
          bonus = omega (arith, c.figures.bonus);
          charge = omega (arith, c.charge);
          credit = omega (arith, c.credit);
        }

    -- commitments of the rows given
    pub new_committed : (g : GivenRow) → Memᴰ g new → g.committed ≤ most_kilowatts
    unfolding given_of charged_of charged_row
    new_committed g m =
        let (r, at, e) = from_row g m in
        subst (λ g. g.committed ≤ most_kilowatts) e (s.rows r at).committed

    -- shortfall and bonus of the rows given
    pub new_balance : (g : GivenRow) → Memᴰ g new → (g.shortfall ≤ most_kilowatts) × (g.bonus ≤ most_actual)
    unfolding given_of charged_of charged_row
    new_balance g m =
        let (r, at, e) = from_row g m in
        let figures = figures_in_lem (header_of file).region_wide (ratio_of (header_of file) (rows_of file)) r (s.rows r at) in
        subst (λ g. (g.shortfall ≤ most_kilowatts) × (g.bonus ≤ most_actual)) e (figures.shortfall, figures.bonus)

    -- an account after the interval
    account_fits : (a : Account) → Memᴰ a (ledger_of ledger).accounts → a.id < 2 ^ 64
        → AccountFits (posted_all v v.rows a)
    account_fits a m id_fits =
        let p = posted_all_lem v v.rows a in
        let now = s.ledger_is.accounts a m in
        let t = (ledger_of ledger).terms in
        let most = limit_le t a.largest (terms_in_lem t (terms_of_ledger t s.ledger_is.terms)) now.largest in
        record {
          id = omega (arith, p.id, id_fits);
          largest = omega (arith, p.largest, now.largest, largest_le a.id most_kilowatts new new_committed);
          charged = omega (arith, p.charged, now.charged, most, part_le a.id (λ g. g.charge) new, new_charges, pool_is, s.pool);
          credited = omega (arith, p.credited, now.credited, part_le a.id (λ g. g.credit) new, new_credits, credits_le v, s.pool);
        }

    -- the ledger after the interval
    pub ledger_fits : ((a : Account) → Memᴰ a (ledger_of ledger).accounts → a.id < 2 ^ 64)
        → LedgerFits (settled_ledger ledger file)
    unfolding settled_ledger carried_on
    ledger_fits ids_fit =
        let l = ledger_of ledger in
        let t = terms_in_lem l.terms (terms_of_ledger l.terms s.ledger_is.terms) in
        record {
          net_cone = omega (arith, t.net_cone);
          days = omega (arith, t.days);
          year = omega (arith, year_of_ledger l.terms s.ledger_is.terms);
          earliest = omega (arith, s.header.interval, s.days, t.days);
          carried = omega (arith, s.pool);
          count = omega (arith, length-map l.accounts (posted_all v v.rows), s.ledger_is.few);
          accounts = λ b at. let (a, m, e) = Memᴰ.of_map (posted_all v v.rows) l.accounts at in
              subst AccountFits e (account_fits a m (ids_fit a m));
        }

    -- both sides of the ratio fit 64 bits
    ratio_in_lem : (v.ratio.numerator < 2 ^ 64) × (v.ratio.denominator < 2 ^ 64)
    unfolding assessed_file assessed ratio_of
    ratio_in_lem = (
      omega (arith, numerator_le (header_of file) (rows_of file) s.header s.rows_few s.rows),
      omega (arith, denominator_le (rows_of file) s.rows_few s.rows),
    )

    -- the result of the interval
    pub result_words_fit : Fits (result_words v)
    unfolding result_words summary_words
    result_words_fit =
        let q = ratio_in_lem in
        let each = rows_words_below (2 ^ 64) most_cents (omega arith) (omega arith) (credit v) v.rows rows_within in
        let n = below_cons (length v.rows) _
        (omega (arith, rows_count s.passed, s.passed.tabled.rows_few)) each in
        let ratio = below_cons v.ratio.numerator _ q.0 (below_cons v.ratio.denominator _ q.1 n) in
        let bonus = below_cons (total_bonus v) _ (omega (arith, bonus_fits s.passed)) ratio in
        let on = below_cons {n = 2 ^ 64} (carried_on v) _ (unfold carried_on in omega (arith, s.pool)) bonus in
        let cents = below_cons (charges v) _ (omega (arith, pool_is, s.pool))
        (below_cons (credits v) _ (omega (arith, credits_le v, s.pool)) on) in
        below_cons (printed_ratio v.ratio) _ (omega (arith, printed_le v.ratio)) cents

    -- a word of the interval is read back from the result that has been written
    result_word : (k : ℕ) → k < 8 → word64 (written (result_words v) result) k ≡ get_or (result_words v) k 0
    unfolding word64 number_at written result_words summary_words
    result_word k h =
        word_back 8 (result_words v) (drop (8 * length (result_words v)) result) k result_words_fit (omega arith)

    -- the rows read back are those that the interval gives
    given_made : given_by file (written (result_words v) result) ≡ new
    unfolding charged_of
    given_made =
        let l = ledger_of ledger in
        given_back v l.terms l.accounts (header_of file).region_wide
        (ratio_of (header_of file) (rows_of file)) file result (rows_are ledger file) row_fits

    -- and the whole interval is read back as it is given
    pub interval_made : interval_by file (written (result_words v) result) ≡ new_interval
    unfolding interval_by result_words summary_words
    interval_made = λ i. record {
      charges = result_word 1 (omega arith) i;
      credits = result_word 2 (omega arith) i;
      carried = result_word 3 (omega arith) i;
      bonus = result_word 4 (omega arith) i;
      rows = given_made i;
    }
