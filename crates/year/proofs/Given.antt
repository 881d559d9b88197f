-- The rows that an accepted call gave are read back from its result, where their words fit 64 bits.
use Prim.Native.Nat.{ℕ, ◌*◌, ◌^◌, ◌<◌}
use mathlib.Core.Path.{◌≡◌, refl, sym, ap, ◌∙◌}
use mathlib.Core.List.{List, [], ◌∷◌, ◌++◌, map, Memᴰ}
use lib.ListN.{length, drop}
use Rattle.words.specs.Words.{bytes_of, number_at, word64, bytes_of_words, written}
use Rattle.words.proofs.Words.{first_word}
use Rattle.reading.specs.Block.{Terms}
use Rattle.reading.specs.Interval.{Row, rows_of}
use Rattle.assessment.specs.Assessment.{Ratio, Account, ChargedRow, charged_row, Assessed, credit}
use Rattle.settling.specs.Settling.{rows_words, summary_words, result_words}
use Rattle.year.specs.Year.{GivenRow, given_from, given_by}

-- what a charged row of an interval is given
unfoldable pub given_of : Assessed → ChargedRow → GivenRow
given_of v c = record {
  id = c.row.id;
  committed = c.row.committed;
  shortfall = c.figures.shortfall;
  bonus = c.figures.bonus;
  charge = c.charge;
  credit = credit v c;
}

-- a row given whose shortfall, bonus, charge and credit fit 64 bits
pub record GivenFits (g : GivenRow) : Type 0 where
  pub shortfall : g.shortfall < 2 ^ 64
  pub bonus : g.bonus < 2 ^ 64
  pub charge : g.charge < 2 ^ 64
  pub credit : g.credit < 2 ^ 64

module _ (v : Assessed) (t : Terms) (accounts : List Account) (region_wide : ℕ) (q : Ratio) where
  -- the rows given are read back from the bytes of their row words, where they fit
  rows_back : (rs : List Row) (rest : List ℕ)
      → ((r : Row) → Memᴰ r rs → GivenFits (given_of v (charged_row t accounts region_wide q r)))
      → given_from rs (bytes_of_words 8 (rows_words (credit v) (map (charged_row t accounts region_wide q) rs)) ++ rest)
      ≡ map (given_of v) (map (charged_row t accounts region_wide q) rs)
  unfolding given_from given_of rows_words bytes_of_words bytes_of word64 number_at charged_row
  rows_back [] rest fit = refl
  rows_back (r ∷ rs) rest fit =
      let f = fit r (Memᴰ.head refl) in
      let g = given_of v (charged_row t accounts region_wide q r) in
      let ws = rows_words (credit v) (map (charged_row t accounts region_wide q) rs) in
      λ i. record {
        id = r.id;
        committed = r.committed;
        shortfall = first_word 8 g.shortfall (g.bonus ∷ g.charge ∷ g.credit ∷ ws) rest f.shortfall i;
        bonus = first_word 8 g.bonus (g.charge ∷ g.credit ∷ ws) rest f.bonus i;
        charge = first_word 8 g.charge (g.credit ∷ ws) rest f.charge i;
        credit = first_word 8 g.credit ws rest f.credit i;
      }
      ∷ rows_back rs rest (λ s m. fit s (Memᴰ.tail m)) i

  -- the rows given are read back from a buffer that the whole result has been written to
  pub given_back : (file result : List ℕ) → v.rows ≡ map (charged_row t accounts region_wide q) (rows_of file)
      → ((r : Row) → Memᴰ r (rows_of file) → GivenFits (given_of v (charged_row t accounts region_wide q r)))
      → given_by file (written (result_words v) result) ≡ map (given_of v) v.rows
  unfolding given_by written result_words summary_words bytes_of_words bytes_of
  given_back file result e fit =
      let rest = drop (8 * length (result_words v)) result in
      ap (λ cs. given_from (rows_of file) (bytes_of_words 8 (rows_words (credit v) cs) ++ rest)) e
      ∙ rows_back (rows_of file) rest fit ∙ ap (map (given_of v)) (sym e)
