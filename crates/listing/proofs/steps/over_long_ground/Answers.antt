-- `listing::steps::over_long_ground` meets its contract. The number decides.
use mathlib.Core.Path.{sym}
use Rattle.listing.specs.Npalist.{over_long_ground}
use Rattle.listing.proofs.EndLaws.{at_first, at_later}
use Rattle.listing.proofs.steps.over_long_ground.Goals as goal

pub returns-then-number-eq0 : goal.returns-then-number-eq0
unfolding over_long_ground
returns-then-number-eq0 c = sym (at_first _ _ _ c.if-number-eq0.true)

pub returns : goal.returns
unfolding over_long_ground
returns c = sym (at_later _ _ _ c.if-number-eq0.false)
