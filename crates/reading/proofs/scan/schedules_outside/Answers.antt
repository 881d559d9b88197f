-- `reading::scan::schedules_outside` meets its contract. Each test is one of the ground.
use mathlib.Core.Path.{sym}
use native.Mathlib.Omega.{arith}
use Rattle.std.proofs.lemmas.Grind.{common_steps}
use Rattle.reading.specs.Values.{row_in}
use Rattle.reading.proofs.ScheduleTests.{none_dispatched, some_named}
use Rattle.reading.proofs.scan.schedules_outside.Goals as goal

pub returns-then-row-eq0 : goal.returns-then-row-eq0
unfolding row_in
returns-then-row-eq0 c =
    sym (none_dispatched c.args.file.now.tabled.read c.requires.naming (row_in c.args.row) (omega arith))

pub returns-then-reach_beyond : goal.returns-then-reach_beyond
unfolding row_in
returns-then-reach_beyond c =
    let is = some_named c.args.file.now.tabled.read c.requires.naming (row_in c.args.row) (omega arith) in
    grind (arith, common_steps, is)

pub returns-else-reach_beyond : goal.returns-else-reach_beyond
unfolding row_in
returns-else-reach_beyond c =
    let is = some_named c.args.file.now.tabled.read c.requires.naming (row_in c.args.row) (omega arith) in
    grind (arith, common_steps, is)
