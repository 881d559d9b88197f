-- `assessment::offer::highest` meets its contract. What is left to look at is the schedules from k on.
use Rattle.std.proofs.Common.{◌≡◌, ◌+◌, ◌<◌, max, length, arith, rules, sym, ap, subst}
use Rattle.reading.specs.Interval.{schedules_named}
use Rattle.reading.specs.Kinds.{schedule_kind_number}
use Rattle.reading.specs.Values.{row_in}
use Rattle.assessment.specs.Values.{row_said}
use Rattle.assessment.proofs.ScheduleLaws.{Highest, highest_turn, highest_skip}
use Rattle.assessment.proofs.offer.highest.Goals as goal
use Rattle.assessment.proofs.offer.highest.Goals.{then-k-row, else-k-row}

pub loop-k-preserved : goal.loop-k-preserved
unfolding row_in
loop-k-preserved c =
    let f = c.args.row.now.file.bytes.now in
    let row = row_in c.args.row.now.words in
    let after = Highest (row_said c.args.row.now) (schedule_kind_number c.args.on) (c.loop-k.k + 1) in
    let below : c.loop-k.k < length (schedules_named f row) = omega (arith, c.schedules-count.ensures) in
    elim c.if-k-row.branch [
      | then-k-row w ↦
          let next : c.if-k-row.most.0 ≡ max c.loop-k.most.0 w.counted.result.0 = search rules in
          subst after (sym next) (highest_turn f row c.loop-k.invariant below w.counted.ensures)
      | else-k-row w ↦
          subst after (sym (ap (λ m. m.0) w.most-is))
          (highest_skip f row c.requires.dispatched_in_bounds c.loop-k.invariant w.if-k-row.false)
    ]
