-- The worked figures, computed.
use mathlib.Core.Path.{refl}
use Rattle.assessment.specs.Figures.{
  curve_a,
  on_a,
  prd,
  with_bonus,
  shared,
  proved_figures,
  ProvedFigures,
  row11,
  row12,
  row13,
  row14,
  listing_rows,
  with_forced,
  with_planned,
  each_kind,
  importing,
  imported,
  shared_with_importer,
  importer_of,
  unshared,
  one_point,
  one_short,
  worked_figures,
  WorkedFigures,
}
use Rattle.assessment.proofs.Computing.{computing}

-- the figures that document 01 marks (P) are as stated
pub proved_figures_lem : ProvedFigures
unfolding ProvedFigures proved_figures curve_a on_a prd with_bonus shared computing
proved_figures_lem = refl

-- the figures that tell each rule from the wrong ones nearest to it are as stated
pub worked_figures_lem : WorkedFigures
unfolding WorkedFigures worked_figures curve_a on_a prd with_bonus shared row11 row12 row13 row14 listing_rows with_forced with_planned each_kind importing imported shared_with_importer importer_of unshared one_point one_short computing
worked_figures_lem = refl
