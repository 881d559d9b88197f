-- `reading::listed::ListedBlock::ids_out_of_order` meets its contract. Left to test is whether the ids from i on rise
-- above the last.
use mathlib.Core.Path.{refl, sym}
use native.Mathlib.Omega.{arith}
use lib.ListN.{drop_of_length-le}
use Rattle.reading.specs.Block.{block_of}
use Rattle.reading.proofs.Facts.{length_listed}
use Rattle.reading.proofs.Order.{next_at, order_broken, order_goes_on, order_holds}
use Rattle.reading.proofs.listed.ListedBlock.ids_out_of_order.Goals as goal

pub loop-i-init : goal.loop-i-init
loop-i-init c = refl

pub returns-then-id-last : goal.returns-then-id-last
returns-then-id-last c =
    let next = next_at (block_of c.args.self.now.bytes.now).ids c.loop-i.i
    (omega (arith, length_listed c.args.self.now.listed)) c.id-id.ensures in
    sym (order_broken _ c.loop-i.last c.loop-i.invariant next (omega arith))

pub loop-i-preserved : goal.loop-i-preserved
loop-i-preserved c =
    let next = next_at (block_of c.args.self.now.bytes.now).ids c.loop-i.i
    (omega (arith, length_listed c.args.self.now.listed)) c.id-id.ensures in
    order_goes_on _ c.loop-i.last c.loop-i.invariant next (omega arith)

pub returns : goal.returns
returns c =
    let n = length_listed c.args.self.now.listed in
    sym (order_holds _ c.loop-i.last c.loop-i.invariant (drop_of_length-le _ {i = c.loop-i.i} (omega (arith, n))))
