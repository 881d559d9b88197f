-- What an opening block and an interval file share: two formats each, which differ in their sizes.
use Rattle.std.specs.Prelude.{ℕ, ◌≡◌, ◌<◌, ◌≤◌, ◌⊎◌, List, Bool, true, cond, length, eqb}
use Rattle.words.specs.Words.{word32}
use Rattle.words.specs.Grounds.{outside}

-- bytes of the word that says the format
abbrev pub format_bytes : ℕ
format_bytes = 4

-- the least and the most bytes of a format
pub record Sizes : Type 0 where
  pub least : ℕ
  pub most : ℕ

-- a length that a format does not have
unfoldable pub sizes_outside : Sizes → ℕ → Bool
sizes_outside s n = outside s.least s.most n

-- the length that bytes of format 1 or 2 have is not one of their format's, or word 0 is neither
unfoldable pub not_of_formats : Sizes → Sizes → List ℕ → Bool
not_of_formats one two b =
    cond (eqb (word32 b 0) 1) (sizes_outside one (length b))
    (cond (eqb (word32 b 0) 2) (sizes_outside two (length b))
    true)

-- bytes that begin with the word of no format: 1 and 2 alone are one
abbrev pub FormatNone : List ℕ → Type 0
FormatNone b = (length b < format_bytes) ⊎ ((word32 b 0 < 1) ⊎ (2 < word32 b 0))

-- bytes that begin with the word of a format
pub record FormatRead (b : List ℕ) (format : ℕ) : Type 0 where
  pub long : format_bytes ≤ length b
  pub word : format ≡ word32 b 0
  pub low : 1 ≤ format
  pub high : format ≤ 2
