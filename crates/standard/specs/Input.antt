-- What is read of standard input for one step.
use Rattle.std.specs.Prelude.{ℕ, ◌≤◌, ◌≡◌, List, length}
use Rattle.std.specs.Borrow.{Bor, MutBor}
use Rattle.stream.specs.Stream.{length_bytes, bytes_due}
use Rattle.standard.specs.declared.Read.{Read}

-- a part of a buffer is its front: it begins where the buffer does
abbrev pub IsFront : MutBor (List ℕ) → Bor (List ℕ) → Type 0
IsFront buffer part = part.ref_ptr ≡ buffer.ref_ptr

-- at most the bytes of a length, then what is due after them, and no byte more: each the front of its buffer
pub record ReadNext (most : ℕ) (head block : MutBor (List ℕ)) (read : Read) : Type 0 where
  pub few : length read.head.now ≤ length_bytes
  pub asked : read.due ≡ bytes_due most read.head.now
  pub no_more : length read.block.now ≤ read.due
  pub head_front : IsFront head read.head
  pub block_front : IsFront block read.block
