-- `reading::file::File::scan` meets its contract. Left to test are the rows from i on for ground 13, those from m on
-- for 18, then for 14 those from n on, in row n the schedules from k on, and in schedule k the points from j on.
use Prim.Native.Nat.{ℕ, ◌<◌}
use mathlib.Core.Path.{◌≡◌, refl, sym, ap, ◌∙◌}
use mathlib.Core.List.{List}
use mathlib.Core.Bool.{false}
use native.Mathlib.Omega.{arith}
use Rattle.words.specs.Lists.{any}
use Rattle.reading.specs.Interval.{RowWords, header_of, row_words_at, row_outside, schedules_beyond, schedules_outside, points_outside}
use Rattle.reading.specs.Values.{header_in, schedule_in, HeaderRead}
use Rattle.reading.specs.declared.header.Header.{Header}
use Rattle.reading.proofs.Facts.{row_count_lem}
use Rattle.reading.proofs.RowsLeft.{words_start}
use Rattle.reading.proofs.SoundRows.{none_at, schedules_lie}
use Rattle.reading.proofs.ScanTests.{
  some_row,
  row_turn,
  rows_pass,
  row_fails,
  schedules_pass,
  schedules_fail,
  points_fail,
  all_pass,
  row_passes,
  curve_fails,
  curve_begins,
  point_fails,
  point_passes,
  curve_passes,
}
use Rattle.reading.proofs.file.File.scan.Goals as goal

-- where ground 18 refuses no row, the schedules of one that is read do not reach beyond the table
named_within : {f : List ℕ} {h : Header} → HeaderRead f h → some_row f (schedules_outside f) ≡ false
    → (i : ℕ) {w : RowWords} → w ≡ row_words_at f i → i < h.rows → schedules_beyond (header_in h) w ≡ false
named_within {f} read pass i {w} here in_file =
    let below : i < (header_of f).row_count = omega (arith, row_count_lem read) in
    let named = ap (schedules_outside f) here ∙ none_at f (schedules_outside f) i pass below in
    schedules_lie f w named read

pub scan-init : goal.scan-init
scan-init c = tt

pub loop-i-init : goal.loop-i-init
loop-i-init c = ap (any row_outside) (words_start _)

pub loop-i-preserved : goal.loop-i-preserved
loop-i-preserved c =
    row_turn c.args.self.now.tabled.read row_outside c.loop-i.i c.row.ensures.words c.loop-i.invariant (omega arith)
    (sym c.if-row_outside.ensures)

pub loop-m-init : goal.loop-m-init
loop-m-init c = record {
  in_range = rows_pass c.args.self.now.tabled.read row_outside c.loop-i.i c.loop-i.invariant (omega arith);
  schedules = ap (any (schedules_outside c.args.self.now.bytes.now)) (words_start c.args.self.now.bytes.now);
}

pub schedules_outside-requires-clause-naming : goal.schedules_outside-requires-clause-naming
schedules_outside-requires-clause-naming c = c.rows_naming-m-end.ensures.naming (omega arith)

pub loop-m-preserved : goal.loop-m-preserved
loop-m-preserved c = record {
  in_range = c.loop-m.invariant.in_range;
  schedules = row_turn c.args.self.now.tabled.read (schedules_outside c.args.self.now.bytes.now) c.loop-m.m
      c.row-in-loop-m.ensures.words c.loop-m.invariant.schedules (omega arith) (sym c.if-schedules_outside.ensures);
}

pub loop-n-init : goal.loop-n-init
loop-n-init c = record {
  in_range = c.loop-m.invariant.in_range;
  schedules = schedules_pass c.args.self.now.tabled.read c.loop-m.m c.rows_naming-m-end.ensures.value
      c.loop-m.invariant.schedules (omega arith);
  points = ap (any (points_outside c.args.self.now.bytes.now)) (words_start c.args.self.now.bytes.now);
}

pub loop-k-init : goal.loop-k-init
unfolding points_outside
loop-k-init c =
    row_turn c.args.self.now.tabled.read (points_outside c.args.self.now.bytes.now) c.loop-n.n c.row-row.ensures.words
    c.loop-n.invariant.points (omega arith) refl

pub schedule-s-requires : goal.schedule-s-requires
schedule-s-requires c = record {
  within_table = named_within c.args.self.now.tabled.read c.loop-n.invariant.schedules c.loop-n.n
      c.row-row.ensures.words (omega arith);
  k_lt_count = omega (arith, c.schedules-k-end.ensures);
}

pub curve-points-requires : goal.curve-points-requires
curve-points-requires c = sym c.if-curve_misplaced.ensures

pub loop-j-init : goal.loop-j-init
unfolding schedule_in
loop-j-init c =
    curve_begins _ _ c.loop-k.k _ c.loop-k.invariant c.args.self.now.tabled.read c.schedule-s.ensures.value
    (omega (arith, c.schedules-k-end.ensures)) c.curve-points.ensures.count c.curve-points.ensures.part
    (sym c.if-curve_misplaced.ensures)

pub loop-j-preserved : goal.loop-j-preserved
loop-j-preserved c =
    point_passes _ _ c.loop-j.j _ c.loop-j.invariant (omega arith) (sym c.if-point_refused.ensures)

pub loop-k-preserved : goal.loop-k-preserved
loop-k-preserved c = curve_passes _ _ c.loop-j.j _ c.loop-j.invariant (omega arith)

pub loop-n-preserved : goal.loop-n-preserved
loop-n-preserved c = record {
  in_range = c.loop-n.invariant.in_range;
  schedules = c.loop-n.invariant.schedules;
  points = row_passes _ _ c.loop-k.k _ c.loop-k.invariant (omega (arith, c.schedules-k-end.ensures));
}

pub returns-then-row_outside : goal.returns-then-row_outside
returns-then-row_outside c =
    sym
    (row_fails c.args.self.now.bytes.now
    (row_turn c.args.self.now.tabled.read row_outside c.loop-i.i c.row.ensures.words c.loop-i.invariant (omega arith)
    (sym c.if-row_outside.ensures)))

pub returns-then-schedules_outside : goal.returns-then-schedules_outside
returns-then-schedules_outside c =
    sym
    (schedules_fail c.args.self.now.bytes.now c.loop-m.invariant.in_range
    (row_turn c.args.self.now.tabled.read (schedules_outside c.args.self.now.bytes.now) c.loop-m.m
    c.row-in-loop-m.ensures.words c.loop-m.invariant.schedules (omega arith) (sym c.if-schedules_outside.ensures)))

pub returns-then-curve_misplaced : goal.returns-then-curve_misplaced
returns-then-curve_misplaced c =
    sym
    (points_fail c.args.self.now.bytes.now c.loop-n.invariant.in_range c.loop-n.invariant.schedules
    (curve_fails _ _ c.loop-k.k _ c.loop-k.invariant c.args.self.now.tabled.read c.schedule-s.ensures.value
    (omega (arith, c.schedules-k-end.ensures)) (sym c.if-curve_misplaced.ensures)))

pub returns-then-point_refused : goal.returns-then-point_refused
returns-then-point_refused c =
    sym
    (points_fail c.args.self.now.bytes.now c.loop-n.invariant.in_range c.loop-n.invariant.schedules
    (point_fails _ _ c.loop-j.j _ c.loop-j.invariant (omega arith) (sym c.if-point_refused.ensures)))

pub returns-after-loop-n : goal.returns-after-loop-n
returns-after-loop-n c =
    sym
    (all_pass c.args.self.now.bytes.now c.loop-n.invariant.in_range c.loop-n.invariant.schedules
    (rows_pass c.args.self.now.tabled.read (points_outside c.args.self.now.bytes.now) c.loop-n.n
    c.loop-n.invariant.points (omega arith)))
