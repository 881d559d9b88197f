-- The words before a block's ids, and where an id stands.
use Prim.Native.Nat.{ℕ, ◌+◌, ◌*◌, ◌≤◌, ◌<◌}
use mathlib.Core.Path.{◌≡◌, ap, ◌∙◌}
use mathlib.Core.List.{List}
use mathlib.Core.Bool.{Bool, true, false, cond}
use borrow.Author.Tests.{eq-eqb}
use lib.ListN.{drop, get_or}
use lib.Dec.{eqb}
use native.Mathlib.Omega.{arith}
use Rattle.words.specs.Words.{number_at, word32}
use Rattle.words.proofs.Words.{entry_at}
use Rattle.words.proofs.Access.{number_at_drop}
use Rattle.reading.specs.Block.{
  yearless_format,
  block_header_bytes,
  id_bytes,
  year_named,
  BlockWords,
  block_words,
  block_of,
}

-- a block of either format has five words at least
pub block_header_least : (format : ℕ) → 20 ≤ block_header_bytes format
unfolding block_header_bytes
block_header_least format = by (eqb format yearless_format)
  where
    by : (one : Bool) → 20 ≤ cond one 20 24
    by true = omega arith
    by false = omega arith

-- a block of format 1 names no year
pub named_none : (b : List ℕ) → word32 b 0 ≡ yearless_format → year_named b ≡ 0
unfolding year_named
named_none b e = rw (eq-eqb (word32 b 0) yearless_format e)

-- an id is the number at its place
pub id_is : (b : List ℕ) (w : BlockWords) → w ≡ block_words b → (i : ℕ) → i < w.id_count
    → get_or (block_of b).ids i 0 ≡ number_at 4 b (w.ids_offset + id_bytes * i)
unfolding block_of word32
id_is b w says i h =
    let at = w.ids_offset in
    let front : id_bytes * i + 0 ≡ id_bytes * i = omega arith in
    rw (← says)
    (entry_at id_bytes (λ id. word32 id 0) w.id_count (drop at b) i 0 h
    ∙ number_at_drop 4 (id_bytes * i) (drop at b) 0
    ∙ ap (number_at 4 (drop at b)) front
    ∙ number_at_drop 4 at b (id_bytes * i))
