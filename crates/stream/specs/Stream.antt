-- A stream of blocks, each after its length as one 32-bit word.
use Rattle.std.specs.Prelude.{ℕ, List, [], Bool, true, false, cond, length, take, drop, ltb, eqb}
use Rattle.words.specs.Words.{number}

-- the bytes of a length
abbrev pub length_bytes : ℕ
length_bytes = 4

-- an end of a stream: where a length is due, inside a length or its block, or at a length over the limit
pub data End : Type 0 where
  ended : End
  cut : End
  over_long : End

-- what comes next in a stream where a length is due: an end, or a block and the rest of the stream
pub data Next : Type 0 where
  stop : End → Next
  block : List ℕ → List ℕ → Next

-- a block has at most so many bytes, and its length is tested before it is read
unfoldable pub next_block : ℕ → List ℕ → Next
next_block most s =
    let n = number length_bytes s in
    let rest = drop length_bytes s in
    cond (eqb (length s) 0) (stop ended)
    (cond (ltb (length s) length_bytes) (stop cut)
    (cond (ltb most n) (stop over_long)
    (cond (ltb (length rest) n) (stop cut)
    (block (take n rest) (drop n rest)))))

-- whether the stream stops there
unfoldable pub stops : Next → Bool
stops (stop e) = true
stops (block bytes rest) = false

-- the bytes of the block that comes next; none where the stream stops
unfoldable pub bytes_of_next : Next → List ℕ
bytes_of_next (stop e) = []
bytes_of_next (block bytes rest) = bytes

-- the rest of a stream after what comes next
unfoldable pub after : Next → List ℕ
after (stop e) = []
after (block bytes rest) = rest

-- how many bytes are due after a length: those of its block, or none where it is cut or over the limit
unfoldable pub bytes_due : ℕ → List ℕ → ℕ
bytes_due most head =
    let n = number length_bytes head in
    cond (ltb (length head) length_bytes) 0 (cond (ltb most n) 0 n)
