-- `reading::listed::ListedBlock::ids_out_of_order` meets its contract. Left to test is whether the ids from i on rise
-- above the last.
use mathlib.Core.Path.{◌≡◌}
use lib.ListN.{drop}
use Rattle.words.specs.Lists.{rises_above}
use Rattle.reading.specs.Block.{block_of}
use Rattle.reading.proofs.listed.ListedBlock.ids_out_of_order.Given as goal

abbrev pub invariant-loop-i : goal.invariant-loop-i
invariant-loop-i l =
    let ids = (block_of l.self.bytes.now).ids in
    rises_above 0 ids ≡ rises_above l.last (drop l.i ids)
