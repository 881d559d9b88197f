-- `ledger::ground_six::terms_refused` meets its contract. Ground 2, then the year unless it is 0.
use mathlib.Core.Path.{sym, ◌∙◌}
use native.Mathlib.Omega.{arith}
use Rattle.reading.specs.Values.{terms_in}
use Rattle.ledger.proofs.GroundSixLaws.{terms_refuse, year_unnamed, year_decides}
use Rattle.ledger.proofs.ground_six.terms_refused.Goals as goal

pub returns-then-terms_outside : goal.returns-then-terms_outside
unfolding terms_in
returns-then-terms_outside c = sym (terms_refuse _ (sym c.terms_outside.ensures ∙ c.if-terms_outside.true))

pub returns-then-terms-eq0 : goal.returns-then-terms-eq0
unfolding terms_in
returns-then-terms-eq0 c =
    let inside = sym c.terms_outside.ensures ∙ c.if-terms_outside.false in
    sym (year_unnamed _ inside (omega arith))

pub returns : goal.returns
unfolding terms_in
returns c =
    let inside = sym c.terms_outside.ensures ∙ c.if-terms_outside.false in
    c.year_outside.ensures ∙ sym (year_decides _ inside (λ e. omega arith))
