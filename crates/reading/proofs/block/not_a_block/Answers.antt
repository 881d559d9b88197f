-- `reading::block::not_a_block` meets its contract. Each format has room for its word.
use mathlib.Core.Path.{ap}
use native.Mathlib.Omega.{arith}
use Rattle.reading.specs.Formats.{Sizes}
use Rattle.reading.specs.Block.{yearless_format, dated_format, block_sizes}
use Rattle.reading.specs.Values.{sizes_in}
use Rattle.reading.proofs.Blocks.{block_header_least}
use Rattle.reading.proofs.block.not_a_block.Goals as goal

pub not_of_formats-requires-clause-format_bytes_le_least :
    goal.not_of_formats-requires-clause-format_bytes_le_least
unfolding sizes_in block_sizes
not_of_formats-requires-clause-format_bytes_le_least c =
    omega (arith, block_header_least yearless_format, ap (λ (s : Sizes). s.least) c.block_sizes.ensures)

pub not_of_formats-requires-clause-format_bytes_le_least_2 :
    goal.not_of_formats-requires-clause-format_bytes_le_least_2
unfolding sizes_in block_sizes
not_of_formats-requires-clause-format_bytes_le_least_2 c =
    omega (arith, block_header_least dated_format, ap (λ (s : Sizes). s.least) c.block_sizes-2.ensures)
