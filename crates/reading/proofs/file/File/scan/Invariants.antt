-- `reading::file::File::scan` meets its contract. Left to test are the rows from i on for ground 13, those from m on
-- for 18, then for 14 those from n on, in row n the schedules from k on, and in schedule k the points from j on.
use Prim.Native.Nat.{◌+◌}
use mathlib.Core.Path.{◌≡◌}
use mathlib.Core.Bool.{false, ◌||◌}
use lib.ListN.{drop}
use Rattle.words.specs.Lists.{any}
use Rattle.reading.specs.Interval.{schedules_named, row_outside, schedules_outside, curve_outside, points_outside}
use Rattle.reading.specs.Values.{row_in}
use Rattle.reading.proofs.RowsLeft.{curve_left}
use Rattle.reading.proofs.ScanTests.{some_row, row_from}
use Rattle.reading.proofs.file.File.scan.Given as goal

abbrev pub invariant-loop-i : goal.invariant-loop-i
invariant-loop-i l = let f = l.self.bytes.now in some_row f row_outside ≡ row_from f row_outside l.i

abbrev pub invariant-loop-m : goal.invariant-loop-m
invariant-loop-m l =
    let f = l.self.bytes.now in
    record {
      in_range : some_row f row_outside ≡ false;
      schedules : some_row f (schedules_outside f) ≡ row_from f (schedules_outside f) l.m;
    }

abbrev pub invariant-loop-j : goal.invariant-loop-j
invariant-loop-j l =
    let f = l.self.bytes.now in
    some_row f (points_outside f)
    ≡ (curve_left l.j-end l.points.points.now l.j
    || (any (curve_outside f) (drop (l.k + 1) (schedules_named f (row_in l.row)))
    || row_from f (points_outside f) (l.n + 1)))

abbrev pub invariant-loop-k : goal.invariant-loop-k
invariant-loop-k l =
    let f = l.self.bytes.now in
    some_row f (points_outside f)
    ≡ (any (curve_outside f) (drop l.k (schedules_named f (row_in l.row))) || row_from f (points_outside f) (l.n + 1))

abbrev pub invariant-loop-n : goal.invariant-loop-n
invariant-loop-n l =
    let f = l.self.bytes.now in
    record {
      in_range : some_row f row_outside ≡ false;
      schedules : some_row f (schedules_outside f) ≡ false;
      points : some_row f (points_outside f) ≡ row_from f (points_outside f) l.n;
    }

abbrev pub invariant-scan : goal.invariant-scan
invariant-scan l = Unit {0}

abbrev pub decreases-scan : goal.decreases-scan
decreases-scan l = 0
