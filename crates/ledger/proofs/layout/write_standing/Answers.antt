-- `ledger::layout::write_standing` meets its contract. Eight words at the front.
use mathlib.Core.Path.{sym, ◌∙◌}
use Rattle.words.proofs.Access.{front_placed}
use Rattle.reading.specs.Values.{terms_in}
use Rattle.ledger.specs.Ledger.{standing_words}
use Rattle.ledger.specs.Values.{standing_in}
use Rattle.ledger.proofs.layout.write_standing.Goals as goal

pub returns : goal.returns
unfolding standing_words standing_in terms_in
returns c = c.store.ensures ∙ sym (front_placed _ _)
