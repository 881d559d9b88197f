-- `listing::blocks::list_block` meets its contract. The number decides whether the block is opened or settled.
use Rattle.listing.specs.Npalist.{opening_listed, interval_listed, block_listed}
use Rattle.listing.proofs.EndLaws.{at_first, at_later}
use Rattle.listing.proofs.blocks.list_block.Goals as goal

pub returns-then-number-ne0 : goal.returns-then-number-ne0
unfolding block_listed
returns-then-number-ne0 g c =
    let number = c.args.number in
    let ledger = c.args.ledger.now in
    let block = c.args.block.now in
    rw (at_later number (opening_listed ledger block) (interval_listed number ledger block) c.if-number-ne0.true)
    c.list_interval.ensures

pub returns : goal.returns
unfolding block_listed
returns g c =
    let number = c.args.number in
    let ledger = c.args.ledger.now in
    let block = c.args.block.now in
    rw (at_first number (opening_listed ledger block) (interval_listed number ledger block) c.if-number-ne0.false)
    c.list_opening.ensures
