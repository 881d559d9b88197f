-- `settling::call::pool_too_large`: the charges are above what the cents carried leave room for, which they are not
-- where that is enough for the most charges.
use Prim.Native.Nat.{◌*◌, ◌≤◌}
use mathlib.Core.Path.{◌≡◌, sym, ap, ap₂, ◌∙◌}
use mathlib.Core.Bool.{false}
use borrow.Author.Rules.{rules}
use borrow.Author.Tests.{le-ltb}
use lib.Dec.{ltb}
use Rattle.reading.specs.Interval.{most_rows}
use Rattle.assessment.proofs.Limits.{most_charge_lem}
use Rattle.settling.proofs.SettledLaws.{pool_test, pool_fits}
use Rattle.settling.proofs.call.pool_too_large.Goals as goal

pub returns-then-le : goal.returns-then-le
returns-then-le c =
    let most = ap (λ cents. most_rows * cents) most_charge_lem in
    let enough : most_rows * 813333333 ≤ c.minus-room.result.0 = search rules in
    let above : ltb c.minus-room.result.0 (most_rows * 813333333) ≡ false = le-ltb c.minus-room.result.0 (most_rows * 813333333) enough in
    sym (pool_fits c.requires (ap₂ ltb (sym c.minus-room.ensures) most ∙ above))

pub returns : goal.returns
returns c =
    let sums = c.charge_rows-sums in
    let above : c.lt.result ≡ ltb c.minus-room.result.0 sums.result.charges.0 = search rules in
    above
    ∙ ap (λ room. ltb room sums.result.charges.0) c.minus-room.ensures
    ∙ pool_test c.requires sums.ensures.charges_value
