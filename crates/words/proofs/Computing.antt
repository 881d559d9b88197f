-- Every definition of this crate's specs, and of those below, opened at once:
-- a proof that computes says `unfolding computing`.
use Prim.Native.Nat.{ℕ}
use Rattle.words.specs.Lists.{sum, any, rises_above, rises}
use Rattle.words.specs.Words.{
  number,
  bytes_of,
  number_at,
  word32,
  word64,
  signed,
  entries,
  bytes_of_words,
  written,
  written_at,
}
use Rattle.words.specs.Grounds.{answered, outside, beyond, lies_from, overlap}

unfoldable pub computing : ℕ
unfolding sum any rises_above rises number bytes_of number_at word32 word64 signed entries bytes_of_words written written_at answered outside beyond lies_from overlap
computing = 0
