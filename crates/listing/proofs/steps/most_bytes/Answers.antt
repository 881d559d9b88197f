-- `listing::steps::most_bytes` meets its contract. The number decides.
use mathlib.Core.Path.{sym}
use Rattle.listing.specs.Npalist.{most_bytes}
use Rattle.listing.proofs.EndLaws.{at_first, at_later}
use native.Mathlib.Omega.{arith}
use Rattle.listing.proofs.steps.most_bytes.Goals as goal

pub returns-then-number-eq0 : goal.returns-then-number-eq0
unfolding most_bytes
returns-then-number-eq0 c = record { value = sym (at_first _ _ _ c.if-number-eq0.true); upper_bound = omega arith }

pub returns : goal.returns
unfolding most_bytes
returns c = record { value = sym (at_later _ _ _ c.if-number-eq0.false); upper_bound = omega arith }
