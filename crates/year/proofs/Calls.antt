-- What holds of a year holds after any calls if each accepted one keeps it, since a refused one changes nothing.
use Prim.Native.Nat.{ℕ}
use mathlib.Core.Path.{◌≡◌, refl, sym, ap, subst}
use mathlib.Core.List.{List, [], ◌∷◌, ◌++◌}
use mathlib.Core.Bool.{Bool, true, false, cond}
use lib.Dec.{eqb}
use borrow.Author.Tests.{eqb-true}
use Rattle.words.specs.Grounds.{answered}
use Rattle.settling.specs.Settling.{settling_grounds, SettlingAnswer, settling}
use Rattle.settling.proofs.SettlingAnswers.{settled_answer, settling_accepts, settling_refuses}
use Rattle.year.specs.Year.{
  Call,
  interval_by,
  AnyCall,
  Year,
  after_answer,
  after_call,
  after_calls,
  calls_of,
  after_all,
}

-- a call leaves the ledger that it answers with
pub answer_leaves : (y : Year) (c : Call) (a : SettlingAnswer) → (after_answer y c a).ledger ≡ a.ledger
unfolding after_answer
answer_leaves y c a = by (eqb a.refusal 0)
  where
    by : (t : Bool) → (cond {A = Year} t (record { ledger = a.ledger; intervals = y.intervals ++ (interval_by c.file a.result ∷ []); given = y.given ++ (interval_by c.file a.result).rows; last = interval_by c.file a.result })
        (record { ledger = a.ledger; intervals = y.intervals; given = y.given; last = y.last })).ledger ≡ a.ledger
    by true = refl
    by false = refl

module _ (P : Year → Type 0)
    (step : (y : Year) (c : Call) → P y → (settling y.ledger c.file c.result).refusal ≡ 0
    → P (after_answer y c (settled_answer y.ledger c.file c.result))) where
  -- what each accepted call keeps still holds after one call, accepted or refused
  after_call_lem : (y : Year) (c : Call) → P y → P (after_call y c)
  unfolding after_call after_answer
  after_call_lem y c k = by (eqb (answered (settling_grounds y.ledger c.file c.result)) 0) refl
    where
      g : ℕ
      g = answered (settling_grounds y.ledger c.file c.result)

      by : (t : Bool) → eqb g 0 ≡ t → P (after_answer y c (settling y.ledger c.file c.result))
      by true e =
          let a = settling_accepts y.ledger c.file c.result (eqb-true g 0 e) in
          subst (λ a. P (after_answer y c a)) (sym a) (step y c k (ap (λ a. a.refusal) a))
      by false e =
          subst (λ a. P (after_answer y c a)) (sym (settling_refuses y.ledger c.file c.result e)) (rw e k)

  -- so it holds after any list of calls, where it holds of the year before them
  pub after_calls_lem : (y : Year) (calls : List Call) → P y → P (after_calls y calls)
  unfolding after_calls
  after_calls_lem y [] k = k
  after_calls_lem y (c ∷ calls) k = after_calls_lem (after_call y c) calls (after_call_lem y c k)

  -- of both sorts too, since an event is a list of calls
  pub after_all_lem : (y : Year) (calls : List AnyCall) → P y → P (after_all y calls)
  unfolding after_all
  after_all_lem y [] k = k
  after_all_lem y (c ∷ calls) k =
      after_all_lem (after_calls y (calls_of y.ledger c)) calls (after_calls_lem y (calls_of y.ledger c) k)
