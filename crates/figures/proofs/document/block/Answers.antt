-- `figures::document::block` meets its contract. Its words, written at the front, are the listing's block.
use Rattle.words.specs.Words.{placed_at}
use Rattle.ledger.specs.Figures.{listing_block, block_with}
use Rattle.ledger.proofs.Computing.{computing}
use Rattle.figures.proofs.document.block.Goals as goal

pub returns : goal.returns
unfolding placed_at listing_block block_with computing
returns c = c.store.ensures
