-- `settling::grounds::other_terms` meets its contract. Net CONE is compared first; where it is the same, the days
-- decide.
use mathlib.Core.Path.{sym}
use Rattle.reading.specs.Values.{terms_in, header_in}
use Rattle.settling.proofs.SettlingTests.{cone_other, days_decide}
use Rattle.settling.proofs.grounds.other_terms.Goals as goal

pub returns-then-h-terms : goal.returns-then-h-terms
unfolding terms_in header_in
returns-then-h-terms c = sym (cone_other _ _ c.if-h-terms.true)

pub returns : goal.returns
unfolding terms_in header_in
returns c = sym (days_decide _ _ c.if-h-terms.false)
