-- The words of a result: how many a row has, and bounds of them.
use Prim.Native.Nat.{ℕ, ◌*◌, ◌<◌, ◌≤◌}
use mathlib.Core.Path.{◌≡◌, refl}
use mathlib.Core.List.{List, [], ◌∷◌, Memᴰ}
use native.Mathlib.Omega.{arith}
use lib.ListN.{length}
use Rattle.words.proofs.Lists.{member_le, EachBelow, below_nil, below_cons}
use Rattle.assessment.specs.Assessment.{most_actual, ChargedRow, Assessed, charges, pool, credit, credits}
use Rattle.assessment.proofs.Promises.{FiguresIn}
use Rattle.assessment.proofs.Shares.{credits_le}
use Rattle.settling.specs.Settling.{rows_words}

-- eight words a row
pub length_rows_words : (credited : ChargedRow → ℕ) (cs : List ChargedRow)
    → length (rows_words credited cs) ≡ 8 * length cs
unfolding rows_words
length_rows_words credited [] = refl
length_rows_words credited (c ∷ cs) = omega (arith, length_rows_words credited cs)

-- a row's figures are within their bounds, and its charge and its credit are at most so many cents
pub record RowWithin (most : ℕ) (credited : ChargedRow → ℕ) (c : ChargedRow) : Type 0 where
  pub figures : FiguresIn c.figures
  pub charge : c.charge ≤ most
  pub credit : credited c ≤ most

-- an interval of a pool of at most so many cents has such rows
pub row_within : (v : Assessed) (most : ℕ) → pool v ≤ most → (c : ChargedRow) → Memᴰ c v.rows
    → FiguresIn c.figures
    → RowWithin most (credit v) c
unfolding pool charges credits
row_within v most small c m own = record {
  figures = own;
  charge = omega (arith, member_le (λ c. c.charge) m, small);
  credit = omega (arith, member_le (credit v) m, credits_le v, small);
}

-- the words of such rows are below what is above all kW and those cents
pub rows_words_below : (n most : ℕ) → most_actual < n → most < n → (credited : ChargedRow → ℕ) (cs : List ChargedRow)
    → ((c : ChargedRow) → Memᴰ c cs → RowWithin most credited c) → EachBelow n (rows_words credited cs)
unfolding rows_words
rows_words_below n most kw cents credited [] each = below_nil
rows_words_below n most kw cents credited (c ∷ cs) each =
    let w = each c (Memᴰ.head refl) in
    let own = c.figures in
    let f = w.figures in
    let later = rows_words_below n most kw cents credited cs (λ d m. each d (Memᴰ.tail m)) in
    let paid = below_cons c.charge _ (omega (arith, w.charge))
    (below_cons (credited c) _ (omega (arith, w.credit)) later) in
    let bonus = below_cons own.bonus _ (omega (arith, f.bonus)) paid in
    let shortfall = below_cons own.shortfall _ (omega (arith, f.shortfall)) bonus in
    let economic = below_cons own.economic _ (omega (arith, f.economic)) shortfall in
    let outage = below_cons own.outage _ (omega (arith, f.outage)) economic in
    below_cons own.expected _ (omega (arith, f.expected))
    (below_cons own.actual _ (omega (arith, f.actual)) outage)
