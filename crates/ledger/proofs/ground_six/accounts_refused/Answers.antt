-- `ledger::ground_six::accounts_refused` meets its contract. The invariant:
-- all accounts are refused just where those left are, after the last id and with the sums so far.
use mathlib.Core.Path.{◌≡◌, sym, ◌∙◌}
use mathlib.Core.Bool.{not}
use native.Mathlib.Omega.{arith}
use borrow.Author.Rules.{rules}
use lib.Dec.{eqb}
use Rattle.assessment.specs.Values.{account_in}
use Rattle.ledger.proofs.GroundSixLaws.{
  passing_start,
  id_low,
  account_refused,
  charged_most,
  credited_most,
  passing_turn,
  passing_end,
}
use Rattle.ledger.proofs.ground_six.accounts_refused.Goals as goal

pub loop-j-init : goal.loop-j-init
loop-j-init c = passing_start c.args.accounts.bytes.now c.args.s c.requires.says c.requires.carried_inside

pub returns-then-a-last : goal.returns-then-a-last
unfolding account_in
returns-then-a-last c =
    sym
    (id_low c.loop-j.invariant (omega arith) _ c.account_at-a.ensures c.if-a-last.true)

pub returns-then-account_outside : goal.returns-then-account_outside
unfolding account_in
returns-then-account_outside c =
    sym
    (account_refused c.loop-j.invariant (omega arith) _ c.account_at-a.ensures c.account_outside.ensures
    c.if-account_outside.true)

pub plus-charged-requires : goal.plus-charged-requires
unfolding account_in
plus-charged-requires c =
    let most =
    charged_most c.loop-j.invariant (omega arith) _ c.account_at-a.ensures c.requires.terms_inside
    c.account_outside.ensures c.if-account_outside.false in
    omega (arith, most, c.loop-j.invariant.charged_low)

pub plus-credited-requires : goal.plus-credited-requires
unfolding account_in
plus-credited-requires c =
    let most =
    credited_most c.loop-j.invariant (omega arith) _ c.account_at-a.ensures c.requires.terms_inside
    c.account_outside.ensures c.if-account_outside.false in
    omega (arith, most, c.loop-j.invariant.credited_low)

pub loop-j-preserved : goal.loop-j-preserved
unfolding account_in
loop-j-preserved c =
    passing_turn c.loop-j.invariant (omega arith) _ c.account_at-a.ensures c.requires.terms_inside
    c.account_outside.ensures c.if-account_outside.false (omega arith) _ _ c.plus-charged.ensures c.plus-credited.ensures

pub returns : goal.returns
returns c =
    let differ : c.ne.result ≡ not (eqb c.loop-j.charged.0 c.loop-j.credited.0) = search rules in
    differ ∙ sym (passing_end c.loop-j.invariant (omega arith))
