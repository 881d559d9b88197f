-- One pass over the rows of a file: what is added to both sides of the ratio, and what is left to add.
use Prim.Native.Nat.{ℕ, ◌+◌, ◌*◌, ◌≤◌, ◌<◌}
use mathlib.Core.Path.{◌≡◌, ap, ◌∙◌}
use mathlib.Core.List.{List}
use native.Mathlib.Omega.{arith}
use Rattle.words.specs.Lists.{sum}
use Rattle.words.proofs.Lists.{sum_start, sum_turn, sum_end}
use Rattle.reading.specs.Interval.{most_kilowatts, most_imports, RowWords, header_of, row_words_at, row_of, rows_of}
use Rattle.reading.specs.Values.{header_in, HeaderRead, Tabled}
use Rattle.reading.specs.declared.header.Header.{Header as HeaderValue}
use Rattle.reading.proofs.RowsLeft.{rows_left, rows_start}
use Rattle.reading.proofs.Facts.{next_row, no_row}
use Rattle.assessment.specs.Assessment.{
  most_actual,
  numerator_share,
  import_share,
  numerator,
  denominator_share,
  denominator,
  ratio_of,
}

-- before row i: both sides, with the shares of the rows that are left, are the file's; and they are bounded by i
pub record Summed (f : List ℕ) (h : HeaderValue) (i above below : ℕ) : Type 0 where
  pub adds_above : above + sum (numerator_share h.region_wide) (rows_left f i) ≡ numerator (header_in h) (rows_of f)
  pub adds_below : below + sum denominator_share (rows_left f i) ≡ denominator (rows_of f)
  pub most_above : above ≤ most_imports + most_actual * i
  pub most_below : below ≤ most_kilowatts * i

module _ {f : List ℕ} {h : HeaderValue} where
  -- before the first row, the imports are added
  pub summed_start : {imports : ℕ} → imports ≡ import_share (header_in h) → imports ≤ most_imports
      → Summed f h 0 imports 0
  unfolding numerator denominator header_in
  summed_start is most =
      let all = ap (sum (numerator_share h.region_wide)) (rows_start f) in
      record {
        adds_above = omega (arith, is, all);
        adds_below = sum_start denominator_share (rows_start f);
        most_above = omega arith;
        most_below = omega arith;
      }

  -- the shares of row i are added
  pub summed_turn : HeaderRead f h → {i above below : ℕ} → Summed f h i above below
      → i < h.rows → {w : RowWords} → w ≡ row_words_at f i
      → (more less : ℕ) → more ≡ numerator_share h.region_wide (row_of f w) → more ≤ most_actual
      → less ≡ denominator_share (row_of f w) → less ≤ most_kilowatts
      → Summed f h (i + 1) (above + more) (below + less)
  summed_turn read {i} {above} {below} s here word more less is_more most_more is_less most_less =
      let turn = next_row read i here word in
      record {
        adds_above = sum_turn (numerator_share h.region_wide) above _ more turn s.adds_above is_more;
        adds_below = sum_turn denominator_share below _ less turn s.adds_below is_less;
        most_above = omega (arith, s);
        most_below = omega (arith, s);
      }

  -- with no row left, they are the ratio
  pub summed_end : Tabled f h → {i above below : ℕ} → Summed f h i above below → h.rows ≤ i
      → record { numerator = above; denominator = below } ≡ ratio_of (header_of f) (rows_of f)
  unfolding ratio_of
  summed_end t {i} {above} {below} s done =
      let none = no_row t.read i done in
      let sum_above = sum_end (numerator_share h.region_wide) above _ none s.adds_above in
      let up = sum_above ∙ ap (λ h. numerator h (rows_of f)) t.read.says in
      let down = sum_end denominator_share below _ none s.adds_below in
      λ j. record { numerator = up j; denominator = down j }
