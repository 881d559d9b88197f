-- An event: a buffer of files, each after its length as one word, settled in order up to the first refusal.
use Rattle.std.specs.Prelude.{ℕ, zero, suc, ◌+◌, List, [], ◌∷◌, ◌++◌, cond, length, take, drop, ltb, eqb}
use Rattle.words.specs.Words.{written}
use Rattle.stream.specs.Stream.{End, Next, next_block}
use Rattle.reading.specs.Interval.{header_of}
use Rattle.settling.specs.Settling.{result_bytes, settling}

-- the largest length that a word holds: an event has no other limit of a length
abbrev pub most_length : ℕ
most_length = 4294967295

-- bytes of the number of files settled
abbrev pub count_bytes : ℕ
count_bytes = 8

-- ground 20: the count buffer is too short
abbrev pub count_too_short : ℕ
count_too_short = 20

-- ground 22: a length runs past the buffer, or 1 to 3 bytes are left where a length is due
abbrev pub length_runs_past : ℕ
length_runs_past = 22

-- what the files of an event leave: 0 or a ground, the ledger, the result buffer, and the number of files settled
pub record Settled : Type 0 where
  pub refusal : ℕ
  pub ledger : List ℕ
  pub result : List ℕ
  pub files : ℕ

-- no file is settled
unfoldable pub no_file : ℕ → List ℕ → List ℕ → Settled
no_file refusal ledger result = record { refusal = refusal; ledger = ledger; result = result; files = 0 }

-- a file is settled, whose result stands before what the later files leave
unfoldable pub one_file : List ℕ → Settled → Settled
one_file front later = record {
  refusal = later.refusal;
  ledger = later.ledger;
  result = front ++ later.result;
  files = later.files + 1;
}

-- what comes next: a file is settled into what is left of the result buffer, and the later files into what it leaves
-- of that
unfoldable pub turn : (List ℕ → List ℕ → List ℕ → Settled) → List ℕ → List ℕ → Next → Settled
turn later ledger result (Next.stop End.ended) = no_file 0 ledger result
turn later ledger result (Next.stop End.cut) = no_file length_runs_past ledger result
turn later ledger result (Next.stop End.over_long) = no_file length_runs_past ledger result
turn later ledger result (Next.block file rest) =
    let a = settling ledger file result in
    let n = result_bytes (header_of file).row_count in
    cond (eqb a.refusal 0)
    (one_file (take n a.result) (later a.ledger rest (drop n a.result)))
    (no_file a.refusal a.ledger a.result)

-- files in order, with a budget of turns
unfoldable pub settled_files : ℕ → List ℕ → List ℕ → List ℕ → Settled
settled_files zero ledger files result = no_file 0 ledger result
settled_files (suc budget) ledger files result = turn (settled_files budget) ledger result (next_block most_length files)

-- what an event answers, and what it leaves in the ledger, the result buffer and the count buffer
pub record EventAnswer : Type 0 where
  pub refusal : ℕ
  pub ledger : List ℕ
  pub result : List ℕ
  pub count : List ℕ

-- a call with an event; a budget above the number of bytes is never used up (`turns-are-enough`)
unfoldable pub event : List ℕ → List ℕ → List ℕ → List ℕ → EventAnswer
event ledger files result count =
    let s = settled_files (length files + 1) ledger files result in
    cond (ltb (length count) count_bytes)
    (record { refusal = count_too_short; ledger = ledger; result = result; count = count })
    (record { refusal = s.refusal; ledger = s.ledger; result = s.result; count = written (s.files ∷ []) count })
