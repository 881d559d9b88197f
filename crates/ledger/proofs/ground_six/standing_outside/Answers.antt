-- `ledger::ground_six::standing_outside` meets its contract. Each test that holds refuses, and the last decides.
use mathlib.Core.Path.{◌≡◌, sym, ◌∙◌}
use native.Mathlib.Omega.{arith}
use borrow.Author.Rules.{rules}
use lib.Dec.{ltb}
use lib.ListN.{length}
use Rattle.reading.specs.Values.{terms_in}
use Rattle.reading.proofs.Bounds.{terms_in_lem}
use Rattle.assessment.specs.Assessment.{most_cents}
use Rattle.ledger.proofs.GroundSixLaws.{holds, carried_decides}
use Rattle.ledger.proofs.Sound.{terms_of_ledger}
use Rattle.ledger.proofs.ground_six.standing_outside.Goals as goal

pub returns-then-terms_refused : goal.returns-then-terms_refused
returns-then-terms_refused c =
    let refuses = sym c.terms_refused.ensures ∙ c.if-terms_refused.true in
    sym (search holds depth 9)

pub returns-then-s-lt1 : goal.returns-then-s-lt1
returns-then-s-lt1 c =
    let low = c.if-s-lt1.true in
    sym (search holds depth 9)

pub returns-then-s-gt-MOST_IDS : goal.returns-then-s-gt-MOST_IDS
returns-then-s-gt-MOST_IDS c =
    let high = c.if-s-gt-MOST_IDS.true in
    sym (search holds depth 9)

pub returns-then-ledger-ledger_bytes : goal.returns-then-ledger-ledger_bytes
returns-then-ledger-ledger_bytes c =
    let short = rw c.ledger_bytes.ensures at c.if-ledger-ledger_bytes.true in
    sym (search holds depth 9)

pub overflow_mul-terms : goal.overflow_mul-terms
unfolding terms_in
overflow_mul-terms c =
    let known =
    terms_in_lem (terms_in c.args.s.terms)
    (terms_of_ledger (terms_in c.args.s.terms)
    (sym c.terms_refused.ensures ∙ c.if-terms_refused.false)) in
    omega (arith, known.days)

pub returns-then-terms-s : goal.returns-then-terms-s
returns-then-terms-s c =
    let late = c.if-terms-s.true in
    sym (search holds depth 9)

pub returns : goal.returns
unfolding terms_in
returns c =
    let s = c.args.s in
    let b = c.args.ledger.now in
    let above : c.lt.result ≡ ltb most_cents s.carried.0 = search rules in
    above
    ∙ sym (carried_decides (terms_in s.terms) s.accounts (length b) s.earliest s.carried.0
    (sym c.terms_refused.ensures ∙ c.if-terms_refused.false) (omega arith) (omega arith) (omega arith)
    (omega arith))
