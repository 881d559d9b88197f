-- What the rules make of an importer.
use Rattle.std.proofs.Common.{◌≡◌, ℕ, ◌⊎◌, arith, eqb}
use Rattle.reading.specs.Interval.{Row}
use Rattle.assessment.specs.Assessment.{considered, numerator_share}
use Rattle.assessment.proofs.Opened.{by_kind}

-- a kind word of a row that produces: 0 or 4
abbrev pub Producing : ℕ → Type 0
Producing k = (k ≡ 0) ⊎ (k ≡ 4)

-- a row in an event, by its kind word
module _ (region_wide : ℕ) (r : Row) where
  -- a row of kind 5 is considered where the event is region-wide
  pub considered_importer : r.kind ≡ 5 → eqb region_wide 1 ≡ considered region_wide r
  unfolding by_kind
  considered_importer e = grind arith

  -- a row of kind 2 or 5 or of no kind adds nothing to the numerator
  pub numerator_other : (Producing r.kind → ⊥) → (r.kind ≡ 1 → ⊥) → (r.kind ≡ 3 → ⊥)
      → 0 ≡ numerator_share region_wide r
  unfolding by_kind
  numerator_other p d s = grind arith
