-- `reading::scan::kinds_outside` meets its contract. Left to test are the schedules from k on.
use mathlib.Core.Path.{sym, ap, ◌∙◌}
use mathlib.Core.Bool.{true, false}
use native.Mathlib.Omega.{arith}
use Rattle.words.specs.Lists.{any}
use Rattle.words.proofs.Lists.{any_end}
use Rattle.reading.specs.Interval.{kind_outside}
use Rattle.reading.proofs.ScheduleTests.{schedules_start, schedules_end, kinds_turn}
use Rattle.reading.proofs.scan.kinds_outside.Goals as goal

pub loop-k-init : goal.loop-k-init
loop-k-init c = ap (any kind_outside) (schedules_start _ _ _)

pub returns-then-kind_outside : goal.returns-then-kind_outside
returns-then-kind_outside c =
    let file = c.args.file.now in
    let told = sym c.kind_outside.ensures ∙ c.if-kind_outside.true in
    sym
    (kinds_turn file.tabled.read c.args.first c.args.count c.loop-k.k c.table_schedule.ensures.words
    c.loop-k.invariant (omega arith) true told)

pub loop-k-preserved : goal.loop-k-preserved
loop-k-preserved c =
    let file = c.args.file.now in
    let told = sym c.kind_outside.ensures ∙ c.if-kind_outside.false in
    kinds_turn file.tabled.read c.args.first c.args.count c.loop-k.k c.table_schedule.ensures.words
    c.loop-k.invariant (omega arith) false told

pub returns : goal.returns
returns c =
    let none = schedules_end c.args.file.now.bytes.now c.args.first c.args.count c.loop-k.k (omega arith) in
    sym (any_end kind_outside c.loop-k.invariant none)
