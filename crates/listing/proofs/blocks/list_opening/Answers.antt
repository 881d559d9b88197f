-- `listing::blocks::list_opening` meets its contract. What opening answers says whether the listing goes on.
use mathlib.Core.Path.{◌∙◌}
use Rattle.listing.proofs.BlockLaws.{opening_refused, opening_opened}
use Rattle.listing.proofs.blocks.list_opening.Goals as goal

pub returns-in-Err : goal.returns-in-Err
returns-in-Err g c =
    opening_refused _ _ _ c.open.ensures.buffer c.in-Err.refusal _ _ _ c.in-Err.ensures.answer
    (c.from.ensures ∙ c.number.ensures) c.put_refused.ensures.puts

pub returns : goal.returns
returns g c = opening_opened _ _ _ c.open.ensures.buffer _ c.in_default.ensures.answer
