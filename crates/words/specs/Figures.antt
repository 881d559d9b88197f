-- Worked figures: a table of what definitions give, beside what it must be; and those of words and grounds.
use Rattle.std.specs.Prelude.{ℕ, ◌≡◌, List, [], ◌∷◌, map, Bool, true, false, cond, pos, negsuc}
use Rattle.words.specs.Lists.{sum, any, rises}
use Rattle.words.specs.Words.{bytes_of, word32, word64, signed, entries, written}
use Rattle.words.specs.Grounds.{answered, outside, beyond, lies_from, overlap}

-- a figure that definitions give, and the one stated for it
pub record Figure : Type 0 where
  pub computed : ℕ
  pub stated : ℕ

infix 70 ◌gives◌
-- a figure, and what it must be
abbrev pub ◌gives◌ : ℕ → ℕ → Figure
x gives y = record { computed = x; stated = y }

-- every figure of a table is the one stated
abbrev pub AllAsStated : List Figure → Type 0
AllAsStated table = map (λ f. f.computed) table ≡ map (λ f. f.stated) table

-- a test as a figure
abbrev pub test : Bool → ℕ
test t = cond t 1 0

-- ten bytes
unfoldable pub ten_bytes : List ℕ
ten_bytes = 4 ∷ 3 ∷ 2 ∷ 1 ∷ 255 ∷ 0 ∷ 0 ∷ 128 ∷ 7 ∷ 9 ∷ []

-- figures of words, ranges, stretches, order and grounds
unfoldable pub word_figures : List Figure
word_figures =
    -- the lowest byte first
    word32 ten_bytes 0 gives 0x01020304
    ∷ word32 ten_bytes 1 gives 0x800000ff
    ∷ word64 ten_bytes 0 gives 0x800000ff01020304
    -- ranges have both ends
    ∷ test (outside 1 3 0) gives 1
    ∷ test (outside 1 3 1) gives 0
    ∷ test (outside 1 3 3) gives 0
    ∷ test (outside 1 3 4) gives 1
    ∷ test (beyond 3 (pos 3)) gives 0
    ∷ test (beyond 3 (pos 4)) gives 1
    ∷ test (beyond 3 (negsuc 2)) gives 0
    ∷ test (beyond 3 (negsuc 3)) gives 1
    -- a stretch may begin at the first byte and end at the end, and may be empty there
    ∷ test (lies_from 20 24 20 4) gives 1
    ∷ test (lies_from 20 24 19 4) gives 0
    ∷ test (lies_from 20 24 21 4) gives 0
    ∷ test (lies_from 20 24 24 0) gives 1
    ∷ test (lies_from 20 24 25 0) gives 0
    -- stretches that touch share no byte, nor does an empty one
    ∷ test (overlap 40 8 48 8) gives 0
    ∷ test (overlap 48 8 40 8) gives 0
    ∷ test (overlap 40 9 48 8) gives 1
    ∷ test (overlap 48 8 40 9) gives 1
    ∷ test (overlap 40 100 50 0) gives 0
    ∷ test (overlap 50 0 40 100) gives 0
    -- equal numbers do not rise strictly
    ∷ test (rises (3 ∷ 5 ∷ 6 ∷ [])) gives 1
    ∷ test (rises (3 ∷ 5 ∷ 5 ∷ [])) gives 0
    ∷ test (rises (3 ∷ 2 ∷ [])) gives 0
    -- the first ground that applies
    ∷ answered ((false, 6) ∷ (true, 7) ∷ (true, 8) ∷ []) gives 7
    ∷ answered ((false, 6) ∷ []) gives 0
    ∷ sum (λ x. x) (1 ∷ 2 ∷ 3 ∷ []) gives 6
    ∷ test (any (λ x. outside 1 3 x) (1 ∷ 2 ∷ 4 ∷ [])) gives 1
    ∷ []

-- what words and bytes are
pub record WordFigures : Type 0 where
  pub words : AllAsStated word_figures
  -- two's complement
  pub greatest : signed 2147483647 ≡ pos 2147483647
  pub least : signed 2147483648 ≡ negsuc 2147483647
  pub minus_one : signed 4294967295 ≡ negsuc 0
  pub bytes : bytes_of 4 0x01020304 ≡ 4 ∷ 3 ∷ 2 ∷ 1 ∷ []
  pub table : entries 4 (λ entry. word32 entry 0) 2 ten_bytes ≡ 0x01020304 ∷ 0x800000ff ∷ []
  -- bytes beyond what is written stay
  pub beyond_words : written (5 ∷ []) ten_bytes ≡ 5 ∷ 0 ∷ 0 ∷ 0 ∷ 0 ∷ 0 ∷ 0 ∷ 0 ∷ 7 ∷ 9 ∷ []
