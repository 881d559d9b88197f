-- `reading::rows::schedules` meets its contract. By the format.
use mathlib.Core.Path.{sym, ◌∙◌}
use native.Mathlib.Omega.{arith}
use Rattle.reading.specs.Values.{row_in}
use Rattle.reading.proofs.Layouts.{curves_said, schedules_said}
use Rattle.reading.proofs.Schedules.{length_own, length_table}
use Rattle.reading.proofs.rows.schedules.Goals as goal

pub returns-in-Curves : goal.returns-in-Curves
unfolding row_in
returns-in-Curves c f said =
    omega (arith, c.min.ensures, length_own f (row_in c.args.row) (said ∙ curves_said c.in-Curves.ensures))

pub returns-in-Schedules : goal.returns-in-Schedules
unfolding row_in
returns-in-Schedules c f said =
    sym (length_table f (row_in c.args.row) (λ same. schedules_said c.in-Schedules.ensures (sym said ∙ same)))
