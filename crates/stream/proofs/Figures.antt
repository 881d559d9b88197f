-- The worked figures of streams, computed.
use mathlib.Core.Path.{refl}
use Rattle.words.specs.Words.{number}
use Rattle.stream.specs.Stream.{next_block, after, bytes_due}
use Rattle.stream.specs.Steps.{step, joined, steps_over}
use Rattle.stream.specs.Figures.{NextFigures, copying, StepFigures}

-- each worked figure of what comes next is what the definitions compute
pub next_figures : NextFigures
unfolding number next_block bytes_due
next_figures = record {
  none = refl;
  length_cut = refl;
  no_bytes = refl;
  block_cut = refl;
  most_bytes_hold = refl;
  over = refl;
  over_alone = refl;
  due = refl;
  due_over = refl;
  due_cut = refl;
}

-- and so is each of steps over a stream
pub step_figures : StepFigures
unfolding number next_block after step joined steps_over copying
step_figures = record { none = refl; two = refl; stopped = refl; used_up = refl }
