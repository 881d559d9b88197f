-- `settling::charging::charge_rows`: what is left to add and to write is that of the rows from i on, each found by the
-- walk from its account on.
use Rattle.settling.proofs.ChargingLaws.{Pass}
use Rattle.settling.proofs.charging.charge_rows.Given as goal

abbrev pub invariant-loop-i : goal.invariant-loop-i
invariant-loop-i l =
    Pass l.ledger l.interval.scanned.file.bytes.now l.initial.res l.res l.charges.0 l.bonus.0 l.i l.walk.account l.walk.budget
