-- Words that grounds 13 and 18 let through are of a kind.
use Prim.Native.Nat.{ℕ, ◌≤◌}
use mathlib.Core.Path.{◌≡◌, refl}
use mathlib.Core.Bool.{false}
use native.Mathlib.Omega.{arith}
use Rattle.std.proofs.Common.{Result, Ok, Err, IsOk}
use Rattle.words.proofs.Tests.{facts}
use Rattle.words.specs.Grounds.{outside}
use Rattle.reading.specs.Interval.{last_kind, market, cost, RowWords, ScheduleWords, row_outside, kind_outside}
use Rattle.reading.specs.Kinds.{KindRead, ScheduleKindRead}
use Rattle.reading.specs.declared.rows.Kind.{Kind}
use Rattle.reading.specs.declared.rows.ScheduleKind.{ScheduleKind}
use Rattle.reading.specs.declared.rows.NoKind.{NoKind}

-- the kind word of a row that ground 13 does not refuse is not above the last
pub kind_low : (w : RowWords) → row_outside w ≡ false → w.kind ≤ last_kind
unfolding row_outside
kind_low w e = search facts depth 20

-- such a word is of a kind
pub kind_known : {word : ℕ} (read : Result Kind NoKind) → KindRead word read → word ≤ last_kind → IsOk read
kind_known (Ok kind) r low = refl
kind_known (Err none) r low = absurd (omega arith)

-- a schedule's kind word is from market to cost where it is of a kind
pub schedule_kind_within : (s : ScheduleWords) → kind_outside s ≡ false → (market ≤ s.kind) × (s.kind ≤ cost)
unfolding kind_outside outside
schedule_kind_within s e = (search facts, search facts)

-- such a word is of a kind
pub schedule_kind_known : {word : ℕ} (read : Result ScheduleKind NoKind) → ScheduleKindRead word read
    → market ≤ word → word ≤ cost → IsOk read
schedule_kind_known (Ok kind) r low high = refl
schedule_kind_known (Err none) r low high = absurd (omega arith)
