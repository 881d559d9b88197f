-- Worked figures of streams.
use Rattle.std.specs.Prelude.{ℕ, ◌+◌, ◌≡◌, List, [], ◌∷◌, true, false, length, ltb}
use Rattle.stream.specs.Stream.{End, Next, next_block, bytes_due}
use Rattle.stream.specs.Steps.{Steps, steps_over}

-- what comes next in streams of blocks of at most two bytes
pub record NextFigures : Type 0 where
  pub none : next_block 2 [] ≡ Next.stop End.ended
  pub length_cut : next_block 2 (0 ∷ 0 ∷ 0 ∷ []) ≡ Next.stop End.cut
  pub no_bytes : next_block 2 (0 ∷ 0 ∷ 0 ∷ 0 ∷ []) ≡ Next.block [] []
  pub block_cut : next_block 2 (2 ∷ 0 ∷ 0 ∷ 0 ∷ 7 ∷ []) ≡ Next.stop End.cut
  pub most_bytes_hold : next_block 2 (2 ∷ 0 ∷ 0 ∷ 0 ∷ 7 ∷ 8 ∷ 9 ∷ []) ≡ Next.block (7 ∷ 8 ∷ []) (9 ∷ [])
  -- a length over the limit is refused whether or not its block is there
  pub over : next_block 2 (3 ∷ 0 ∷ 0 ∷ 0 ∷ 7 ∷ 8 ∷ 9 ∷ []) ≡ Next.stop End.over_long
  pub over_alone : next_block 2 (0 ∷ 0 ∷ 0 ∷ 1 ∷ []) ≡ Next.stop End.over_long
  -- the bytes due after a length
  pub due : bytes_due 2 (2 ∷ 0 ∷ 0 ∷ 0 ∷ []) ≡ 2
  pub due_over : bytes_due 2 (3 ∷ 0 ∷ 0 ∷ 0 ∷ []) ≡ 0
  pub due_cut : bytes_due 2 (2 ∷ 0 ∷ 0 ∷ []) ≡ 0

-- a program that prints blocks of up to two bytes, to the first without bytes, and adds up their lengths;
-- at an end it prints 255 and the number of the block
unfoldable pub copying : Steps ℕ ℕ
copying = record {
  most = λ number. 2;
  block = λ number sum bytes. record { printed = bytes; state = sum + length bytes; on = ltb 0 (length bytes) };
  last = λ number sum e. 255 ∷ number ∷ [];
}

-- a block of one byte and one of two
abbrev pub two_blocks : List ℕ
two_blocks = 1 ∷ 0 ∷ 0 ∷ 0 ∷ 7 ∷ 2 ∷ 0 ∷ 0 ∷ 0 ∷ 8 ∷ 9 ∷ []

-- the outcome of that program's steps
pub record StepFigures : Type 0 where
  pub none : steps_over copying 1 0 0 [] ≡ record { printed = 255 ∷ 0 ∷ []; state = 0; on = false }
  pub two : steps_over copying 12 0 0 two_blocks ≡ record { printed = 7 ∷ 8 ∷ 9 ∷ 255 ∷ 2 ∷ []; state = 3; on = false }
  pub stopped : steps_over copying 10 0 0 (0 ∷ 0 ∷ 0 ∷ 0 ∷ 1 ∷ 0 ∷ 0 ∷ 0 ∷ 7 ∷ [])
      ≡ record { printed = []; state = 0; on = false }
  -- a budget of one step is used up
  pub used_up : steps_over copying 1 0 0 two_blocks ≡ record { printed = 7 ∷ []; state = 1; on = true }
