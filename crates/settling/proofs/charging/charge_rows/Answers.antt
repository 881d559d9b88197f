-- `settling::charging::charge_rows`: what is left to add and to write is that of the rows from i on, each found by the
-- walk from its account on.
use Prim.Native.Nat.{◌<◌}
use native.Mathlib.Omega.{arith}
use Rattle.ledger.specs.Ledger.{ledger_bytes}
use Rattle.settling.proofs.Turns.{accounts_are}
use Rattle.settling.proofs.ChargingLaws.{turns, pass_ends}
use borrow.Author.Rules.{rules}
use Rattle.settling.proofs.charging.charge_rows.Goals as goal

pub loop-i-init : goal.loop-i-init
loop-i-init c = search turns

pub invariant_of-accounts : goal.invariant_of-accounts
invariant_of-accounts c =
    let read = c.requires.ledger_read in
    record { counted = accounts_are c.requires; few = read.few; room = read.room }

pub to-walk-requires : goal.to-walk-requires
to-walk-requires c = record { account_within = search rules; budget_suffices = search turns }

pub account_at-requires : goal.account_at-requires
unfolding ledger_bytes
account_at-requires c =
    let below : c.to-walk.result.account < c.args.interval.now.standing.accounts = search turns in
    omega (arith, below, c.requires.ledger_read.room)

pub charge-charge-requires : goal.charge-charge-requires
charge-charge-requires c = record {
  terms_value = search rules;
  largest_le_most_kilowatts = search turns;
  short_le_most_kilowatts = search turns;
}

pub plus-charges-requires : goal.plus-charges-requires
plus-charges-requires c = search turns

pub plus-bonus-requires : goal.plus-bonus-requires
plus-bonus-requires c = search turns

pub loop-i-preserved : goal.loop-i-preserved
loop-i-preserved c = search turns

pub returns : goal.returns
returns c =
    let ends = pass_ends c.requires c.loop-i.invariant c.loop-i-test.false in
    record { charges_value = ends.0; bonus_value = ends.1.0; res_after = ends.1.1 }
