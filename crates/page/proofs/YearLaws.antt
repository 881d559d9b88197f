-- The laws of a ledger that an accepted opening and calls of settling leave.
use Prim.Native.Nat.{ℕ}
use mathlib.Core.Path.{◌≡◌, refl, sym, ap, ◌∙◌}
use mathlib.Core.List.{List, [], ◌∷◌, ◌++◌}
use mathlib.Core.Bool.{Bool, true, false}
use Rattle.words.specs.Words.{Bytes}
use Rattle.stream.specs.Code.{StepTaken}
use Rattle.ledger.specs.Ledger.{not_a_ledger}
use Rattle.ledger.specs.Opening.{opening}
use Rattle.settling.specs.Settling.{settling}
use Rattle.year.specs.Year.{Call, Year, new_year, after_call, after_calls}
use Rattle.year.proofs.Calls.{answer_leaves}
use Rattle.year.proofs.Claims.{kept}
use Rattle.listing.specs.Npalist.{opening_listed}
use Rattle.listing.specs.Code.{in_bytes}
use Rattle.page.specs.Code.{YearLedger}
use Rattle.page.proofs.StepLaws.{opened_zero, went_on}

-- ground 6 does not refuse it
pub year_holds : {l : List ℕ} → YearLedger l → not_a_ledger l ≡ false
year_holds y = ap not_a_ledger y.leaves ∙ (kept y.block y.buffer y.bytes y.accepted y.calls).holds

-- an accepted opening leaves one
pub year_opened : (l block after before out : List ℕ) (on : Bool)
    → StepTaken (in_bytes (opening_listed l block)) after before out on → on ≡ true
    → Bytes block → YearLedger after
unfolding in_bytes opening_listed after_calls new_year
year_opened l block after before out on taken goes bytes = record {
  block = block;
  buffer = l;
  calls = [];
  bytes = bytes;
  accepted = opened_zero l block (went_on l block after before out on taken true goes);
  leaves = taken.leaves;
}

-- calls, and one after them
one_more : (y : Year) (cs : List Call) (c : Call) → after_calls y (cs ++ (c ∷ [])) ≡ after_call (after_calls y cs) c
unfolding after_calls
one_more y [] c = refl
one_more y (d ∷ cs) c = one_more (after_call y d) cs c

-- and each call of settling leaves another
pub year_settled : {l : List ℕ} (file result after : List ℕ) → YearLedger l → after ≡ (settling l file result).ledger
    → YearLedger after
unfolding after_call
year_settled {l} file result after y e =
    let c : Call = record { file = file; result = result } in
    let before = after_calls (new_year (opening y.block y.buffer).ledger) y.calls in
    record {
      block = y.block;
      buffer = y.buffer;
      calls = y.calls ++ (c ∷ []);
      bytes = y.bytes;
      accepted = y.accepted;
      leaves =
          e ∙ ap (λ b. (settling b file result).ledger) y.leaves
          ∙ sym (answer_leaves before c (settling before.ledger file result))
          ∙ sym (ap (λ y. y.ledger) (one_more (new_year (opening y.block y.buffer).ledger) y.calls c));
    }
