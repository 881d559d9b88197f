-- Every definition of this crate's specs that npalist computes by, and of those below, opened at once.
use Prim.Native.Nat.{ℕ}
use Rattle.words.specs.Words.{placed_at}
use Rattle.stream.specs.Stream.{next_block, after}
use Rattle.stream.specs.Steps.{step, joined, steps_over}
use Rattle.settling.proofs.Computing.{computing as settling_computing}
use Rattle.listing.specs.Lines.{text, digits, decimal, line, heading, bytes_of_line, bytes_of_lines}
use Rattle.listing.specs.Npalist.{
  row_line,
  row_lines,
  pool_line,
  interval_lines,
  ledger_buffer,
  result_buffer,
  opening_listed,
  interval_listed,
  block_listed,
  most_bytes,
  over_long_ground,
  end_lines,
  listing_steps,
  listed,
  npalist,
}

-- a proof that computes says `unfolding computing`
unfoldable pub computing : ℕ
unfolding settling_computing placed_at next_block after step joined steps_over text digits decimal line heading bytes_of_line bytes_of_lines row_line row_lines pool_line interval_lines ledger_buffer result_buffer opening_listed interval_listed block_listed most_bytes over_long_ground end_lines listing_steps listed npalist
computing = 0
