-- The step of a listing on a block meets its contract. The block is opened or settled in the listing's own ledger.
use Rattle.listing.proofs.EndLaws.{block_taken}
use Rattle.listing.proofs.steps.ListingStepsLINES_BYTES.block.Goals as goal

pub returns-clause-taken : goal.returns-clause-taken
returns-clause-taken c = block_taken _ _ _ _ _ _ _ _ c.self.view_is c.requires.empty c.list_block.ensures
