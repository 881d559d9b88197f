-- What the numbers of the grounds of refusal are.
use mathlib.Core.Path.{◌≡◌}
use native.Mathlib.Omega.{arith}
use Rattle.words.specs.Refusals.{ground_number}
use Rattle.words.specs.declared.refusal.Refusal.{Refusal}
use Rattle.words.specs.declared.refusal.Refusal.TheVariants.{
  NotABlock,
  TermsOutside,
  IdsMisplaced,
  IdsOutOfOrder,
  LedgerTooShort,
  NotALedger,
  NotAFile,
  OtherTerms,
  HeaderOutside,
  TooEarly,
  TablesMisplaced,
  IdsUnknown,
  RowOutside,
  CurveOutside,
  ResultTooShort,
  PoolTooLarge,
  OutsideRoster,
  SchedulesOutside,
  CountTooShort,
  FileCut,
  YearUnknown,
}

-- no ground has the number 0, which is the answer where none applies
pub ground_some : (r : Refusal) → ground_number r ≡ 0 → ⊥
ground_some NotABlock e = omega arith
ground_some TermsOutside e = omega arith
ground_some IdsMisplaced e = omega arith
ground_some IdsOutOfOrder e = omega arith
ground_some LedgerTooShort e = omega arith
ground_some NotALedger e = omega arith
ground_some NotAFile e = omega arith
ground_some OtherTerms e = omega arith
ground_some HeaderOutside e = omega arith
ground_some TooEarly e = omega arith
ground_some TablesMisplaced e = omega arith
ground_some IdsUnknown e = omega arith
ground_some RowOutside e = omega arith
ground_some CurveOutside e = omega arith
ground_some ResultTooShort e = omega arith
ground_some PoolTooLarge e = omega arith
ground_some OutsideRoster e = omega arith
ground_some SchedulesOutside e = omega arith
ground_some CountTooShort e = omega arith
ground_some FileCut e = omega arith
ground_some YearUnknown e = omega arith
