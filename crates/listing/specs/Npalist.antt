-- The lines of a stream, and what npalist prints of it.
use Rattle.std.specs.Prelude.{ℕ, ◌+◌, ◌*◌, List, [], ◌∷◌, ◌++◌, true, cond, length, drop, replicate, eqb}
use Rattle.words.specs.Words.{word64}
use Rattle.stream.specs.Stream.{End, next_block}
use Rattle.stream.specs.Steps.{Outcome, Steps, step, steps_over}
use Rattle.reading.specs.Block.{most_block_bytes, most_ids}
use Rattle.reading.specs.Interval.{most_file_bytes, most_rows, Row, header_of, rows_of}
use Rattle.ledger.specs.Ledger.{ledger_bytes}
use Rattle.ledger.specs.Opening.{opening}
use Rattle.settling.specs.Settling.{result_header_bytes, result_row_bytes, SettlingAnswer, settling}
use Rattle.listing.specs.Lines.{heading, Line, bytes_of_lines}

-- the line of a row: interval, id and the row's eight words, which begin at the front of b
unfoldable pub row_line : ℕ → ℕ → List ℕ → Line
row_line interval id b = Line.row (record {
  interval = interval;
  id = id;
  expected = word64 b 0;
  actual = word64 b 1;
  outage = word64 b 2;
  economic = word64 b 3;
  shortfall = word64 b 4;
  bonus = word64 b 5;
  charge = word64 b 6;
  credit = word64 b 7;
})

-- one line a row
unfoldable pub row_lines : ℕ → List Row → List ℕ → List Line
row_lines interval [] b = []
row_lines interval (r ∷ rs) b = row_line interval r.id b ∷ row_lines interval rs (drop result_row_bytes b)

-- the lines of the rows of a file, from its result
abbrev pub file_lines : List ℕ → List ℕ → List Line
file_lines file result = row_lines (header_of file).interval (rows_of file) (drop result_header_bytes result)

-- the pool line of an interval: its number, then ratio, charges, credits and carried from the result
unfoldable pub pool_line : ℕ → List ℕ → Line
pool_line interval b = Line.pool (record {
  interval = interval;
  ratio = word64 b 0;
  charges = word64 b 1;
  credits = word64 b 2;
  carried = word64 b 3;
})

-- the lines of a settled or refused interval block
unfoldable pub interval_lines : ℕ → List ℕ → SettlingAnswer → List Line
interval_lines number file a =
    cond (eqb a.refusal 0)
    (file_lines file a.result ++ (pool_line (header_of file).interval a.result ∷ []))
    (Line.refused number a.refusal ∷ [])

-- a ledger of as many accounts as a block may have ids
unfoldable pub ledger_buffer : List ℕ
ledger_buffer = replicate (ledger_bytes most_ids) 0

-- a result of as many rows as a file may have
unfoldable pub result_buffer : List ℕ
result_buffer = replicate (result_header_bytes + result_row_bytes * most_rows) 0

-- the opening block: no line, or its refusal, after which the listing stops
unfoldable pub opening_listed : List ℕ → List ℕ → Outcome Line (List ℕ)
opening_listed ledger block =
    let a = opening block ledger in
    let opened = eqb a.refusal 0 in
    record { printed = cond opened [] (Line.refused 0 a.refusal ∷ []); state = a.ledger; on = opened }

-- an interval block: the listing goes on after a refused one too
unfoldable pub interval_listed : ℕ → List ℕ → List ℕ → Outcome Line (List ℕ)
interval_listed number ledger file =
    let a = settling ledger file result_buffer in
    record { printed = interval_lines number file a; state = a.ledger; on = true }

-- a block: the opening is block 0
unfoldable pub block_listed : ℕ → List ℕ → List ℕ → Outcome Line (List ℕ)
block_listed number ledger bytes = cond (eqb number 0) (opening_listed ledger bytes) (interval_listed number ledger bytes)

-- the most bytes of a block
unfoldable pub most_bytes : ℕ → ℕ
most_bytes number = cond (eqb number 0) most_block_bytes most_file_bytes

-- the ground of a length over that limit
unfoldable pub over_long_ground : ℕ → ℕ
over_long_ground number = cond (eqb number 0) 1 7

-- the line where the stream ends, if any: it may not end before the opening
unfoldable pub end_lines : ℕ → End → List Line
end_lines number End.ended = cond (eqb number 0) (Line.cut 0 ∷ []) []
end_lines number End.cut = Line.cut number ∷ []
end_lines number End.over_long = Line.refused number (over_long_ground number) ∷ []

-- the steps over the lines of a stream, whose state is the ledger
unfoldable pub listing_steps : Steps Line (List ℕ)
listing_steps = record { most = most_bytes; block = block_listed; last = λ number ledger e. end_lines number e }

-- the step on what comes next in a stream s
abbrev pub next_listed : ℕ → List ℕ → List ℕ → Outcome Line (List ℕ)
next_listed number ledger s = step listing_steps number ledger (next_block (most_bytes number) s)

-- the lines of a stream, and the ledger after them;
-- a budget above the stream's length is never used up (`budget-is-enough`)
unfoldable pub listed : List ℕ → Outcome Line (List ℕ)
listed stream = steps_over listing_steps (length stream + 1) 0 ledger_buffer stream

-- npalist: the heading in any case, then every line of standard input
unfoldable pub npalist : List ℕ → List ℕ
npalist stream = heading ++ bytes_of_lines (listed stream).printed
