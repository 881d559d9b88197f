-- The grounds of refusal as values, and what a call answers.
use Rattle.std.specs.Prelude.{ℕ, Result, Ok, Err}
use Rattle.words.specs.declared.refusal.Refusal.{Refusal}
use Rattle.words.specs.declared.refusal.Refusal.TheVariants.{
  NotABlock,
  TermsOutside,
  IdsMisplaced,
  IdsOutOfOrder,
  LedgerTooShort,
  NotALedger,
  NotAFile,
  OtherTerms,
  HeaderOutside,
  TooEarly,
  TablesMisplaced,
  IdsUnknown,
  RowOutside,
  CurveOutside,
  ResultTooShort,
  PoolTooLarge,
  OutsideRoster,
  SchedulesOutside,
  CountTooShort,
  FileCut,
  YearUnknown,
}

-- the number of a ground in the published list
abbrev pub ground_number : Refusal → ℕ
ground_number NotABlock = 1
ground_number TermsOutside = 2
ground_number IdsMisplaced = 3
ground_number IdsOutOfOrder = 4
ground_number LedgerTooShort = 5
ground_number NotALedger = 6
ground_number NotAFile = 7
ground_number OtherTerms = 8
ground_number HeaderOutside = 9
ground_number TooEarly = 10
ground_number TablesMisplaced = 11
ground_number IdsUnknown = 12
ground_number RowOutside = 13
ground_number CurveOutside = 14
ground_number ResultTooShort = 15
ground_number PoolTooLarge = 16
ground_number OutsideRoster = 17
ground_number SchedulesOutside = 18
ground_number CountTooShort = 20
ground_number FileCut = 22
ground_number YearUnknown = 23

-- what a call answers: 0, or the number of the ground that refused it
abbrev pub answer_of : {A : Type 0} → Result A Refusal → ℕ
answer_of (Ok a) = 0
answer_of (Err r) = ground_number r
