-- `reading::scan::kinds_outside` meets its contract. Left to test are the schedules from k on.
use mathlib.Core.Path.{◌≡◌}
use Rattle.words.specs.Lists.{any}
use Rattle.reading.specs.Interval.{kind_outside, table_schedules}
use Rattle.reading.proofs.ScheduleTests.{table_left}
use Rattle.reading.proofs.scan.kinds_outside.Given as goal

abbrev pub invariant-loop-k : goal.invariant-loop-k
invariant-loop-k l =
    any kind_outside (table_schedules l.file.bytes.now l.first l.count)
    ≡ any kind_outside (table_left l.file.bytes.now l.first l.count l.k)
