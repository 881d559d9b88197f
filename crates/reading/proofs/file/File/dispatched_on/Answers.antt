-- `reading::file::File::dispatched_on` meets its contract. The one that word 14 says, if the row has any.
use Prim.Native.Nat.{ℕ, ◌<◌}
use mathlib.Core.Path.{◌≡◌}
use mathlib.Core.List.{List}
use mathlib.Core.Bool.{false}
use native.Mathlib.Omega.{arith}
use lib.ListN.{length}
use Rattle.reading.specs.Interval.{RowWords, schedules_named, schedules_outside}
use Rattle.reading.specs.Values.{row_in}
use Rattle.reading.proofs.Schedules.{named_nothing, named_something}
use Rattle.reading.proofs.SoundRows.{schedules_lie, dispatched_among}
use Rattle.reading.proofs.file.File.dispatched_on.Goals as goal

-- a row of a file that has schedules was dispatched on one of them, where ground 18 does not refuse it
among : (f : List ℕ) (w : RowWords) → schedules_outside f w ≡ false → 0 < w.count
    → w.dispatched < length (schedules_named f w)
among f w sound some = dispatched_among f w sound (named_something f w some)

pub returns-then-row-eq0 : goal.returns-then-row-eq0
unfolding row_in
returns-then-row-eq0 c = named_nothing c.args.self.now.bytes.now (row_in c.args.row) (omega arith)

pub schedule-requires-clause-within_table : goal.schedule-requires-clause-within_table
schedule-requires-clause-within_table c =
    let file = c.args.self.now in schedules_lie file.bytes.now (row_in c.args.row) c.requires file.tabled.read

pub schedule-requires-clause-k_lt_count : goal.schedule-requires-clause-k_lt_count
unfolding row_in
schedule-requires-clause-k_lt_count c =
    among c.args.self.now.bytes.now (row_in c.args.row) c.requires (omega arith)

pub returns : goal.returns
unfolding row_in
returns c = record {
  among = among c.args.self.now.bytes.now (row_in c.args.row) c.requires (omega arith);
  says = c.schedule.ensures.value;
}
