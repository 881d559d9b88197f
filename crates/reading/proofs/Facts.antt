-- What grounds 1, 3, 7 and 11 leave known of a block and a file once they are ruled out.
use Prim.Native.Nat.{ℕ, ◌+◌, ◌*◌, ◌≤◌, ◌<◌}
use mathlib.Core.Path.{◌≡◌, sym, ap, subst, ◌∙◌}
use mathlib.Core.List.{List, [], ◌∷◌}
use mathlib.Core.Bool.{false}
use lib.ListN.{length, drop, get_or}
use native.Mathlib.Omega.{arith}
use Rattle.words.specs.Lists.{any}
use Rattle.words.specs.Grounds.{outside, lies_from}
use Rattle.words.proofs.Tests.{facts}
use Rattle.reading.specs.Block.{
  block_header_bytes,
  block_sizes,
  block_words,
  block_of,
  not_a_block,
  ids_misplaced,
}
use Rattle.reading.specs.Interval.{
  curves_format,
  layout_of,
  file_layout,
  point_bytes,
  schedule_bytes,
  Table,
  RowWords,
  header_of,
  row_words,
  row_words_at,
  row_of,
  rows_of,
  file_sizes,
  not_a_file,
  leaves,
  places_outside,
  tables_misplaced,
}
use Rattle.reading.specs.Values.{terms_in, block_in, header_in, BlockRead, Listed, HeaderRead, Tabled}
use Rattle.reading.specs.declared.block.Block.{Block as BlockValue}
use Rattle.reading.specs.declared.header.Header.{Header as HeaderValue}
use Rattle.reading.proofs.Layouts.{entry_lies}
use Rattle.reading.proofs.Bounds.{length_ids}
use Rattle.reading.proofs.SpanTests.{has_least, stretch_lies}
use Rattle.reading.proofs.Tables.{none_place}
use Rattle.reading.proofs.RowsLeft.{length_rows, rows_left, rows_turn, rows_end}

-- a block that ground 1 does not refuse has the words that stand before its ids
pub block_has_header : (b : List ℕ) → not_a_block b ≡ false → block_header_bytes (block_words b).format ≤ length b
unfolding not_a_block block_sizes block_words
block_has_header b e = has_least block_sizes b e

-- a file that ground 7 does not refuse has the words of its header
pub file_has_header : (f : List ℕ) → not_a_file f ≡ false → (file_layout f).header_bytes ≤ length f
unfolding not_a_file file_sizes header_of
file_has_header f e = has_least file_sizes f e

-- a value of a block
module _ {b : List ℕ} {v : BlockValue} where
  -- that says its words is read from it, where ground 1 does not refuse it
  pub block_read : not_a_block b ≡ false → block_in v ≡ block_words b → BlockRead b v
  unfolding block_in
  block_read e says =
      record { long = subst (λ w. block_header_bytes w.format ≤ length b) (sym says) (block_has_header b e); says = says }

  -- has the terms that the block states
  pub terms_of_block : BlockRead b v → terms_in v.terms ≡ (block_of b).terms
  unfolding block_of block_in
  terms_of_block r = ap (λ w. w.terms) r.says

  -- and where ground 3 does not refuse the block, the ids lie within it
  pub listed : BlockRead b v → ids_misplaced b ≡ false → Listed b v
  unfolding ids_misplaced block_in outside lies_from
  listed r e =
      let misplaced = rw (← r.says) at e in
      record { read = r; few = search facts depth 9; ids_lie = search facts depth 9 }

  -- the block has as many ids as the value says
  pub length_listed : Listed b v → length (block_of b).ids ≡ v.ids
  unfolding block_in
  length_listed l = length_ids b ∙ sym (ap (λ w. w.id_count) l.read.says)

-- three tables that are in place lie within the end
tables_lie : (from end : ℕ) (rows points schedules : Table) → places_outside from end rows points schedules ≡ false
    → (rows.at + rows.bytes ≤ end) × (points.at + points.bytes ≤ end) × (schedules.at + schedules.bytes ≤ end)
unfolding places_outside leaves
tables_lie from end rows points schedules e =
    let all : any (leaves from end) (rows ∷ points ∷ schedules ∷ []) ≡ false = search facts in
    let lies : (k : ℕ) → k < 3 → leaves from end (get_or (rows ∷ points ∷ schedules ∷ []) k rows) ≡ false =
    λ k h. none_place (leaves from end) rows (rows ∷ points ∷ schedules ∷ []) k all h in (
      table_lies from end rows (lies 0 (omega arith)),
      table_lies from end points (lies 1 (omega arith)),
      table_lies from end schedules (lies 2 (omega arith)),
    )
  where
    table_lies : (from end : ℕ) (t : Table) → leaves from end t ≡ false → t.at + t.bytes ≤ end
    table_lies from end t e = stretch_lies from end t.at t.bytes e

-- a value of a file's header
module _ {f : List ℕ} {h : HeaderValue} where
  -- that says its words is read from it, where ground 7 does not refuse the file
  pub header_read : not_a_file f ≡ false → header_in h ≡ header_of f → HeaderRead f h
  unfolding header_in
  header_read e says =
      record { long = subst (λ h. (layout_of h.format).header_bytes ≤ length f) (sym says) (file_has_header f e); says = says }

  -- and where ground 11 does not refuse it, its tables lie within it
  pub tabled : HeaderRead f h → tables_misplaced f ≡ false → Tabled f h
  unfolding tables_misplaced header_in outside
  tabled r e =
      let misplaced = rw (← r.says) at e in
      let rows : Table = record { at = h.rows_at; bytes = (layout_of h.format).row_bytes * h.rows } in
      let points : Table = record { at = h.points_at; bytes = point_bytes * h.points } in
      let schedules : Table = record { at = h.schedules_at; bytes = schedule_bytes * h.schedules } in
      let places : places_outside (layout_of h.format).header_bytes (length f) rows points schedules ≡ false = search facts in
      let lie = tables_lie _ _ rows points schedules places in
      record {
        read = r;
        rows_few = search facts depth 9;
        points_few = search facts depth 9;
        schedules_few = search facts depth 9;
        rows_lie = lie.0;
        points_lie = lie.1;
        schedules_lie = lie.2;
      }

  -- has the file's format
  pub format_said : HeaderRead f h → h.format ≡ (header_of f).format
  unfolding header_in
  format_said r = ap (λ h. h.format) r.says

  -- which is not 1 where the header's is not
  pub other_said : HeaderRead f h → (h.format ≡ curves_format → ⊥) → (header_of f).format ≡ curves_format → ⊥
  other_said r other e = other (format_said r ∙ e)

  -- row i, of so many bytes as the format says, lies within the file
  pub row_lies : Tabled f h → (i : ℕ) → i < h.rows
      → h.rows_at + (layout_of h.format).row_bytes * i + (layout_of h.format).row_bytes ≤ length f
  row_lies t i below = entry_lies (layout_of h.format).row_bytes h.rows h.rows_at (length f) i t.rows_lie below

  -- whose words are read there
  pub row_read : HeaderRead f h → {bytes : ℕ} → (layout_of h.format).row_bytes ≡ bytes → (i : ℕ) {part : List ℕ}
      → part ≡ drop (h.rows_at + bytes * i) f → row_words h.format part ≡ row_words_at f i
  unfolding row_words_at header_in
  row_read r size i is =
      ap (row_words h.format) is
      ∙ ap (λ bytes. row_words h.format (drop (h.rows_at + bytes * i) f)) (sym size)
      ∙ ap (λ h. row_words h.format (drop (h.rows_offset + (layout_of h.format).row_bytes * i) f)) r.says

  -- has the file's number of rows
  pub row_count_lem : HeaderRead f h → h.rows ≡ (header_of f).row_count
  unfolding header_in
  row_count_lem r = ap (λ h. h.row_count) r.says

  -- and of points
  pub point_count_lem : HeaderRead f h → h.points ≡ (header_of f).point_count
  unfolding header_in
  point_count_lem r = ap (λ h. h.point_count) r.says

  -- and of schedules
  pub schedule_count_lem : HeaderRead f h → h.schedules ≡ (header_of f).schedule_count
  unfolding header_in
  schedule_count_lem r = ap (λ h. h.schedule_count) r.says

  -- below the number of rows, the rows from i on are the one that is read there and those from i + 1 on
  pub next_row : HeaderRead f h → (i : ℕ) {w : RowWords} → i < h.rows → w ≡ row_words_at f i
      → rows_left f i ≡ row_of f w ∷ rows_left f (i + 1)
  next_row r i below e = rw e (rows_turn f i (omega (arith, row_count_lem r)))

  -- from there on none is left
  pub no_row : HeaderRead f h → (i : ℕ) → h.rows ≤ i → rows_left f i ≡ []
  no_row r i beyond = rows_end f i (omega (arith, row_count_lem r))

  -- the file has as many rows as the value says
  pub length_tabled : Tabled f h → length (rows_of f) ≡ h.rows
  length_tabled t = length_rows f ∙ sym (row_count_lem t.read)
