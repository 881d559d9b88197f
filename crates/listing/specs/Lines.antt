-- The lines of a listing, as bytes.
use Rattle.std.specs.Prelude.{ℕ, zero, suc, ◌+◌, ◌/◌, ◌%◌, List, [], ◌∷◌, ◌++◌, cond, ltb}
use Prim.Native.Char.{code}
use Prim.Native.String.{String}

-- the bytes of a text of ASCII characters
unfoldable pub text : String → List ℕ
text String.[] = []
text (String.◌∷◌ c s) = code c ∷ text s

-- the most digits that a 64-bit word has
abbrev pub most_digits : ℕ
most_digits = 20

-- the base of decimal numbers
abbrev pub base : ℕ
base = 10

-- the byte of the digit 0
abbrev pub zero_digit : ℕ
zero_digit = code "0"

-- a number of at most so many decimal digits
unfoldable pub digits : ℕ → ℕ → List ℕ
digits zero v = []
digits (suc n) v = cond (ltb v base) [] (digits n (v / base)) ++ (zero_digit + v % base) ∷ []

-- a 64-bit word in decimal, without padding
unfoldable pub decimal : ℕ → List ℕ
decimal v = digits most_digits v

-- a number and the comma after it
abbrev pub field : ℕ → List ℕ
field v = decimal v ++ text ","

-- numbers with commas between them, and a newline
unfoldable pub line : List ℕ → List ℕ
line [] = text "\n"
line (v ∷ []) = decimal v ++ text "\n"
line (v ∷ w ∷ ws) = field v ++ line (w ∷ ws)

-- the heading
unfoldable pub heading : List ℕ
heading = text "interval,id,expected,actual,outage,economic,shortfall,bonus,charge,credit\n"

-- a row's line, by the heading's names
pub record RowLine : Type 0 where
  pub interval : ℕ
  pub id : ℕ
  pub expected : ℕ
  pub actual : ℕ
  pub outage : ℕ
  pub economic : ℕ
  pub shortfall : ℕ
  pub bonus : ℕ
  pub charge : ℕ
  pub credit : ℕ

-- an interval's pool line
pub record PoolLine : Type 0 where
  pub interval : ℕ
  pub ratio : ℕ
  pub charges : ℕ
  pub credits : ℕ
  pub carried : ℕ

-- the year line of a plant's page
pub record YearLine : Type 0 where
  pub id : ℕ
  pub shortfall : ℕ
  pub bonus : ℕ
  pub charged : ℕ
  pub credited : ℕ
  pub limit : ℕ

-- a line: of a row, of a pool, of a block refused on a ground, of a stream cut off in a block, or of a plant's year
pub data Line : Type 0 where
  row : RowLine → Line
  pool : PoolLine → Line
  refused : ℕ → ℕ → Line
  cut : ℕ → Line
  year : YearLine → Line

-- the bytes of a line
unfoldable pub bytes_of_line : Line → List ℕ
bytes_of_line (row r) =
    line
    (r.interval ∷ r.id ∷ r.expected ∷ r.actual ∷ r.outage ∷ r.economic ∷ r.shortfall ∷ r.bonus
    ∷ r.charge ∷ r.credit ∷ [])
bytes_of_line (pool p) = text "pool," ++ line (p.interval ∷ p.ratio ∷ p.charges ∷ p.credits ∷ p.carried ∷ [])
bytes_of_line (refused block refusal) = text "refused," ++ line (block ∷ refusal ∷ [])
bytes_of_line (cut block) = text "cut," ++ line (block ∷ [])
bytes_of_line (year y) = text "year," ++ line (y.id ∷ y.shortfall ∷ y.bonus ∷ y.charged ∷ y.credited ∷ y.limit ∷ [])

-- the bytes of lines, one after the other
unfoldable pub bytes_of_lines : List Line → List ℕ
bytes_of_lines [] = []
bytes_of_lines (l ∷ ls) = bytes_of_line l ++ bytes_of_lines ls
