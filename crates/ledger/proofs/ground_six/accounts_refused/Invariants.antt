-- `ledger::ground_six::accounts_refused` meets its contract. The invariant:
-- all accounts are refused just where those left are, after the last id and with the sums so far.
use Rattle.ledger.proofs.GroundSixLaws.{Passing}
use Rattle.ledger.proofs.ground_six.accounts_refused.Given as goal

abbrev pub invariant-loop-j : goal.invariant-loop-j
invariant-loop-j l = Passing l.accounts.bytes.now l.fn.s l.last l.charged.0 l.credited.0 l.j
