-- The laws of blocks: the lines of a file's rows, and the steps on an accepted and a refused block.
use Prim.Native.Nat.{ℕ, ◌+◌, ◌*◌, ◌≤◌, ◌<◌}
use mathlib.Core.Path.{◌≡◌, refl, sym, ap, ap₂, ◌∙◌}
use mathlib.Core.List.{List, [], ◌∷◌, ◌++◌, append_assoc, append-nil}
use mathlib.Core.Bool.{true, false}
use native.Mathlib.Omega.{arith}
use lib.ListN.{drop}
use lib.Seq.{drop-drop}
use lib.Dec.{eqb}
use borrow.Author.Tests.{eq-eqb, ne_eqb}
use Rattle.words.specs.Refusals.{ground_number}
use Rattle.words.specs.declared.refusal.Refusal.{Refusal}
use Rattle.words.proofs.Refusals.{ground_some}
use Rattle.stream.specs.Code.{StepTaken}
use Rattle.reading.specs.Interval.{header_of, RowWords, row_words_at, row_with, row_of, rows_of}
use Rattle.reading.proofs.RowsLeft.{rows_left, rows_start, rows_turn, rows_end}
use Rattle.ledger.specs.Opening.{opening}
use Rattle.settling.specs.Settling.{result_header_bytes, result_bytes, SettlingAnswer, settling}
use Rattle.listing.specs.Lines.{Line, bytes_of_line, bytes_of_lines}
use Rattle.listing.specs.Npalist.{
  row_line,
  row_lines,
  file_lines,
  pool_line,
  interval_lines,
  result_buffer,
  opening_listed,
  interval_listed,
}
use Rattle.listing.specs.Code.{in_bytes}
use Rattle.listing.proofs.LineLaws.{one_line, lines_append}

-- the lines of the rows of a file f, with the result b
module _ (f b : List ℕ) (interval : ℕ) where
  -- the lines of the rows from i on
  abbrev pub lines_from : ℕ → List Line
  lines_from i = row_lines interval (rows_left f i) (drop (result_bytes i) b)

  -- and their bytes
  abbrev pub lines_left : ℕ → List ℕ
  lines_left i = bytes_of_lines (lines_from i)

  -- the lines of all rows are those from row 0 on
  pub lines_start : row_lines interval (rows_of f) (drop result_header_bytes b) ≡ lines_from 0
  unfolding result_bytes
  lines_start = ap (λ rs. row_lines interval rs (drop result_header_bytes b)) (rows_start f)

  -- the lines from row i on are its own line and then those from the next row on
  lines_turn : (i : ℕ) (w : RowWords) (part : List ℕ) → i < (header_of f).row_count → w ≡ row_words_at f i
      → part ≡ drop (result_bytes i) b
      → lines_from i ≡ row_line interval w.id part ∷ lines_from (i + 1)
  unfolding row_lines row_of row_with result_bytes
  lines_turn i w part h e p =
      let place : 64 + 64 * i + 64 ≡ 64 + 64 * (i + 1) = omega arith in
      ap (λ rs. row_lines interval rs (drop (64 + 64 * i) b)) (rows_turn f i h)
      ∙ ap₂ (λ k l. row_line interval k.id l ∷ row_lines interval (rows_left f (i + 1)) (drop 64 (drop (64 + 64 * i) b))) (sym e) (sym p)
      ∙ ap (λ l. row_line interval w.id part ∷ row_lines interval (rows_left f (i + 1)) l)
      (drop-drop 64 (64 + 64 * i) b ∙ ap (λ k. drop k b) place)

  -- and so are their bytes
  pub bytes_turn : (i : ℕ) (w : RowWords) (part : List ℕ) → i < (header_of f).row_count → w ≡ row_words_at f i
      → part ≡ drop (result_bytes i) b
      → lines_left i ≡ bytes_of_line (row_line interval w.id part) ++ lines_left (i + 1)
  unfolding bytes_of_lines
  bytes_turn i w part h e p = ap bytes_of_lines (lines_turn i w part h e p)

  -- after the last row no line is left
  pub lines_end : (i : ℕ) → (header_of f).row_count ≤ i → lines_left i ≡ []
  unfolding row_lines bytes_of_lines
  lines_end i h = ap (λ rs. bytes_of_lines (row_lines interval rs (drop (result_bytes i) b))) (rows_end f i h)

-- an interval block that has been settled into a ledger l with a result of zeros
module _ (number : ℕ) (l file after : List ℕ) (e : after ≡ (settling l file result_buffer).ledger) where
  -- the call as it is defined
  abbrev answer : SettlingAnswer
  answer = settling l file result_buffer

  -- the step on a refused interval block, once its line is put
  pub interval_refused : (refusal : Refusal) (said : ℕ) (before out : List ℕ) → ground_number refusal ≡ answer.refusal
      → said ≡ ground_number refusal → out ≡ before ++ bytes_of_line (Line.refused number said)
      → StepTaken (in_bytes (interval_listed number l file)) after before out true
  unfolding interval_listed interval_lines in_bytes
  interval_refused refusal said before out g is put =
      let some : answer.refusal ≡ 0 → ⊥ = λ z. ground_some refusal (g ∙ z) in
      let line : bytes_of_line (Line.refused number said) ≡ bytes_of_lines (interval_lines number file answer) =
      rw (ne_eqb answer.refusal 0 some) (ap (λ g. bytes_of_line (Line.refused number g)) (is ∙ g) ∙ one_line _)
      in
      record { leaves = e; puts = put ∙ ap (λ b. before ++ b) line; goes_on = refl }

  -- the step on a settled interval block, once its row lines and its pool line are put
  pub interval_settled : (result before x out : List ℕ) (interval : ℕ) → 0 ≡ answer.refusal
      → result ≡ answer.result → interval ≡ (header_of file).interval
      → x ≡ before ++ bytes_of_lines (file_lines file result) → out ≡ x ++ bytes_of_line (pool_line interval result)
      → StepTaken (in_bytes (interval_listed number l file)) after before out true
  unfolding interval_listed interval_lines in_bytes
  interval_settled result before x out interval none is word rows pool =
      let both : bytes_of_lines (file_lines file result) ++ bytes_of_line (pool_line interval result)
      ≡ bytes_of_lines (interval_lines number file answer) =
      rw (eq-eqb answer.refusal 0 (sym none))
      (ap (λ b. bytes_of_lines (file_lines file result) ++ b) (one_line (pool_line interval result))
      ∙ sym (lines_append (file_lines file result) (pool_line interval result ∷ []))
      ∙ ap₂ (λ w b. bytes_of_lines (file_lines file b ++ (pool_line w b ∷ []))) word is)
      in
      record { leaves = e; puts = rw (pool, rows, append_assoc) (ap (λ b. before ++ b) both); goes_on = refl }

-- an opening block that has been opened in a ledger l
module _ (l block after : List ℕ) (e : after ≡ (opening block l).ledger) where
  -- the step on a refused opening, once its line is put: the listing stops
  pub opening_refused : (refusal : Refusal) (said : ℕ) (before out : List ℕ)
      → ground_number refusal ≡ (opening block l).refusal
      → said ≡ ground_number refusal → out ≡ before ++ bytes_of_line (Line.refused 0 said)
      → StepTaken (in_bytes (opening_listed l block)) after before out false
  unfolding opening_listed in_bytes
  opening_refused refusal said before out g is put =
      let off : eqb (opening block l).refusal 0 ≡ false =
      ne_eqb (opening block l).refusal 0 (λ z. ground_some refusal (g ∙ z)) in
      let line = ap (λ g. bytes_of_line (Line.refused 0 g)) (is ∙ g)
      ∙ one_line (Line.refused 0 (opening block l).refusal) in
      record { leaves = e; puts = rw off (put ∙ ap (λ b. before ++ b) line); goes_on = sym off }

  -- the step on an accepted opening: nothing is printed, and the listing goes on
  pub opening_opened : (out : List ℕ) → 0 ≡ (opening block l).refusal
      → StepTaken (in_bytes (opening_listed l block)) after out out true
  unfolding opening_listed in_bytes bytes_of_lines
  opening_opened out none =
      let goes : eqb (opening block l).refusal 0 ≡ true = eq-eqb (opening block l).refusal 0 (sym none) in
      record { leaves = e; puts = rw goes (sym (append-nil out)); goes_on = sym goes }
