-- `reading::listed::ListedBlock::id` meets its contract. The number at the place of the id.
use mathlib.Core.Path.{sym, ◌∙◌}
use Rattle.reading.specs.Values.{block_in}
use Rattle.reading.proofs.Blocks.{id_is}
use Rattle.reading.proofs.listed.ListedBlock.id.Goals as goal

pub returns : goal.returns
unfolding block_in
returns c =
    let b = c.args.self.now in
    c.number.ensures.value ∙ sym (id_is b.bytes.now (block_in b.block) b.listed.read.says c.args.i c.requires)
