-- `settling::result::write_credit` meets its contract. One word, the last of the row.
use mathlib.Core.Path.{sym, ◌∙◌}
use Rattle.words.proofs.Access.{word_placed}
use Rattle.settling.proofs.result.write_credit.Goals as goal

pub returns : goal.returns
returns c = rw (← c.result_bytes.ensures) (c.put.ensures ∙ sym (word_placed _ _ _))
