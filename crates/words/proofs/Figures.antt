-- The worked figures of words and grounds, computed.
use mathlib.Core.Path.{refl}
use Rattle.words.specs.Figures.{ten_bytes, word_figures, WordFigures}
use Rattle.words.proofs.Computing.{computing}

-- each worked figure of words and grounds is what the definitions compute
pub word_figures_lem : WordFigures
unfolding ten_bytes word_figures computing
word_figures_lem = record { words = refl; greatest = refl; least = refl; minus_one = refl; bytes = refl; table = refl; beyond_words = refl }
