-- `ledger::walk::Walk::to` meets its contract. The invariant:
-- the id, if it is still to come, stands where a walk from the first place on finds it.
use Prim.Native.Nat.{◌+◌}
use mathlib.Core.Path.{◌≡◌}
use lib.ListN.{drop}
use Rattle.ledger.specs.Ledger.{ledger_of, ids_in}
use Rattle.ledger.specs.Values.{before}
use Rattle.ledger.specs.Walk.{comparisons}
use Rattle.ledger.proofs.walk.Walk.to.Given as goal

abbrev pub invariant-loop-j : goal.invariant-loop-j
invariant-loop-j l =
    let ids = ids_in (ledger_of l.accounts.bytes.now) in
    let from = l.fn.self.account in
    record {
      place : from + before l.id (drop from ids) ≡ l.j + before l.id (drop l.j ids);
      spent : l.budget + comparisons l.id (drop from ids) ≡ l.fn.self.budget + comparisons l.id (drop l.j ids);
    }
