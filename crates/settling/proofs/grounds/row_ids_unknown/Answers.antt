-- `settling::grounds::row_ids_unknown` meets its contract. The loop's invariant: ground 12 refuses just where the walk,
-- from where it stands on, does not find the ids of all rows from i on.
use native.Mathlib.Omega.{arith}
use mathlib.Core.Path.{refl, sym}
use Rattle.reading.specs.Values.{row_in}
use Rattle.ledger.proofs.Sound.{read_rises}
use Rattle.settling.proofs.BudgetLaws.{row_enough}
use Rattle.settling.proofs.IdTests.{seeking_starts, seeking_ends, row_missed, row_within, row_found}
use Rattle.settling.proofs.grounds.row_ids_unknown.Goals as goal

pub loop-i-init : goal.loop-i-init
loop-i-init c =
    seeking_starts c.args.file.now.tabled.read (rw c.accounts-accounts.ensures.bytes_value (read_rises c.args.ledger.read))
    c.accounts-accounts.result.counted c.start-walk.ensures.account_value c.start-walk.ensures.budget_value

pub to-walk-requires : goal.to-walk-requires
unfolding row_in
to-walk-requires c = record {
  account_within = omega arith;
  budget_suffices = row_enough c.args.file.now.tabled.read c.loop-i.invariant.budget c.loop-i-test.true c.row.ensures.words refl;
}

pub returns-then-ended : goal.returns-then-ended
unfolding row_in
returns-then-ended c =
    let refuses =
    row_missed c.args.file.now.tabled.read c.loop-i.invariant c.loop-i-test.true c.row.ensures.words c.to-walk.ensures.account_value
    c.accounts-accounts.result.counted c.ended.ensures c.if-ended.true in
    sym (rw c.accounts-accounts.ensures.bytes_value at refuses)

pub on-walk-requires : goal.on-walk-requires
unfolding row_in
on-walk-requires c =
    let on =
    row_within c.args.file.now.tabled.read c.loop-i.invariant c.loop-i-test.true c.row.ensures.words c.to-walk.ensures.account_value
    c.accounts-accounts.result.counted c.ended.ensures c.if-ended.false in
    omega arith

pub loop-i-preserved : goal.loop-i-preserved
unfolding row_in
loop-i-preserved c =
    row_found c.args.file.now.tabled.read c.loop-i.invariant c.loop-i-test.true c.row.ensures.words c.to-walk.ensures.account_value
    c.accounts-accounts.result.counted c.ended.ensures c.if-ended.false c.to-walk.ensures.budget_value c.on-walk.ensures.account_value
    c.on-walk.ensures.budget_value

pub returns : goal.returns
returns c =
    let passes = seeking_ends c.args.file.now.tabled.read c.loop-i.invariant c.loop-i-test.false in
    sym (rw c.accounts-accounts.ensures.bytes_value at passes)
