-- `settling::result::write_summary` meets its contract. Eight words at the front.
use mathlib.Core.Path.{sym, ◌∙◌}
use Rattle.words.proofs.Access.{front_placed}
use Rattle.settling.proofs.result.write_summary.Goals as goal

pub returns : goal.returns
returns c = rw (← c.millionths.ensures) (c.store.ensures ∙ sym (front_placed _ _))
