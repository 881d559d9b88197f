-- What ground 13 says of a kind with a commitment.
use Prim.Native.Nat.{ℕ, ◌≤◌, ◌<◌}
use mathlib.Core.Path.{◌≡◌}
use mathlib.Core.List.{List, [], ◌∷◌}
use mathlib.Core.Bool.{false, ◌||◌, ◌&&◌}
use native.Mathlib.Decide.{dec_le}
use native.Mathlib.Omega.{arith}
use borrow.Author.Tests.{le-ltb, eq-eqb, ne_eqb}
use lib.Dec.{ltb, eqb}
use Rattle.words.specs.Lists.{any}
use Rattle.words.specs.Grounds.{beyond}
use Rattle.reading.specs.Interval.{last_kind, most_kilowatts, most_price, RowWords, row_outside}

-- the words that count kW and are not signed
abbrev pub kilowatts : RowWords → List ℕ
kilowatts w = w.committed ∷ w.owned ∷ w.planned ∷ w.forced ∷ w.maximum ∷ w.minimum ∷ []

-- a row that passes all tests of ground 13 but the last
pub record Passes (w : RowWords) : Type 0 where
  pub kind : w.kind ≤ last_kind
  pub kilowatts : any (ltb most_kilowatts) (kilowatts w) ≡ false
  pub metered : beyond most_kilowatts w.metered ≡ false
  pub adjustment : beyond most_kilowatts w.adjustment ≡ false
  pub limits : w.minimum ≤ w.maximum
  pub online : w.online ≤ 1
  pub lmp : beyond most_price w.lmp ≡ false

-- the row of these words
module _ (w : RowWords) where
  -- a row that passes them all is outside just where it is of kind 4 or 5 and has a commitment
  pub last_test : Passes w → row_outside w ≡ ((eqb w.kind 4 || eqb w.kind 5) && ltb 0 w.committed)
  unfolding row_outside
  last_test r =
      rw (
        le-ltb last_kind w.kind r.kind,
        r.kilowatts,
        r.metered,
        r.adjustment,
        le-ltb w.maximum w.minimum r.limits,
        le-ltb 1 w.online r.online,
        r.lmp,
      )

  -- a row that passes them all and is of a kind below 4 is not refused
  pub may_commit : Passes w → w.kind < 4 → row_outside w ≡ false
  may_commit r h = rw (last_test r, ne_eqb w.kind 4 (λ e. omega arith), ne_eqb w.kind 5 (λ e. omega arith))

  -- a row of kind 4 or 5 that passes them all is refused just where it has a commitment
  pub may_not_commit : Passes w → 4 ≤ w.kind → row_outside w ≡ ltb 0 w.committed
  may_not_commit r h =
      elim (dec_le w.kind 4) [
        | yes low ↦ rw (last_test r, eq-eqb w.kind 4 (omega arith))
        | no high ↦ rw (last_test r, ne_eqb w.kind 4 (λ e. omega arith), eq-eqb w.kind 5 (omega (arith, r.kind)))
      ]
