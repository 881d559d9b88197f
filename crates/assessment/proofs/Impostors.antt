-- Traps of the desk as rules that could pass for the definitions, and for each a row that tells it from them,
-- by computing it.
use Prim.Native.Nat.{ℕ, ◌-◌, min, max}
use mathlib.Core.Path.{◌≡◌}
use native.Mathlib.Omega.{arith}
use lib.IntN.{pos}
use Rattle.reading.specs.Interval.{
  Row,
  Kind,
  generation,
  demand,
  efficiency,
  responsive,
  energy_only,
  importer,
  no_kind,
  kind_of,
}
use Rattle.assessment.specs.Assessment.{
  actual,
  scheduled,
  economic_scheduled,
  if_considered,
  numerator_share_as,
  numerator_share,
  economic,
}
use Rattle.assessment.specs.Figures.{row, curve_a}
use Rattle.assessment.proofs.Computing.{computing}

-- a row on curve A that gave 70000 kW and was scheduled for 60000, of a kind
abbrev pub over_scheduled : ℕ → Row
over_scheduled kind = row kind 0 0 (pos 70000) 0 0 110000 20000 1 (pos 3000) curve_a

-- what kinds 0 and 4 add to the numerator if the actual is cut to the scheduled kW
cut_share_as : Kind → Row → ℕ
cut_share_as generation r = min (actual r) (scheduled r)
cut_share_as demand r = numerator_share_as demand r
cut_share_as efficiency r = numerator_share_as efficiency r
cut_share_as responsive r = numerator_share_as responsive r
cut_share_as energy_only r = min (actual r) (scheduled r)
cut_share_as importer r = numerator_share_as importer r
cut_share_as no_kind r = numerator_share_as no_kind r

-- uses the scheduled-cut actual in the numerator
pub cut_share : ℕ → Row → ℕ
cut_share region_wide r = if_considered region_wide r (cut_share_as (kind_of r.kind) r)

-- a row of kind 0 that gave more than it was scheduled for tells it from the definition
pub cut_share_differs : cut_share 0 (over_scheduled 0) ≡ numerator_share 0 (over_scheduled 0) → ⊥
unfolding cut_share cut_share_as curve_a computing
cut_share_differs same = omega (arith, same)

-- and such a row of kind 4
pub cut_share_differs_4 : cut_share 0 (over_scheduled 4) ≡ numerator_share 0 (over_scheduled 4) → ⊥
unfolding cut_share cut_share_as curve_a computing
cut_share_differs_4 same = omega (arith, same)

-- excuses forced outage through the economic rule: what is owned less the planned outage alone
pub forced_excused : Row → ℕ → ℕ
forced_excused r expect = min r.maximum (min expect (r.owned - r.planned)) - max (economic_scheduled r) (actual r)

-- a row that owns 110000 kW, 30000 of them forced out, scheduled for 60000 and expected to give 100000
abbrev pub forced_out : Row
forced_out = row 0 100000 110000 (pos 50000) 0 30000 110000 20000 1 (pos 3000) curve_a

-- that row tells it from the definition
pub forced_excused_differs : forced_excused forced_out 100000 ≡ economic forced_out 100000 → ⊥
unfolding forced_excused curve_a computing
forced_excused_differs same = omega (arith, same)
