-- `listing::steps::Listing::new` meets its contract. The ledger is zeros.
use mathlib.Core.Path.{refl}
use Rattle.ledger.specs.Ledger.{ledger_bytes}
use Rattle.listing.specs.Npalist.{ledger_buffer}
use Rattle.listing.proofs.steps.Listing.new.Goals as goal

pub returns : goal.returns
unfolding ledger_buffer ledger_bytes
returns c = refl
