-- Limits of the programs that print figures: what a line, a case and a buffer hold.
use Rattle.std.specs.Prelude.{ℕ}

-- the longest label that is printed with its figures at once
abbrev pub label_room : ℕ
label_room = 64

-- the most figures of a line
abbrev pub most_figures : ℕ
most_figures = 8

-- the most rows of a case
abbrev pub case_rows : ℕ
case_rows = 3

-- the most points of a case
abbrev pub case_points : ℕ
case_points = 10

-- bytes of the listing's ledger of four accounts, and of one word beyond them
abbrev pub listing_ledger_bytes : ℕ
listing_ledger_bytes = 200

-- bytes of the listing's result of four rows
abbrev pub listing_result_bytes : ℕ
listing_result_bytes = 320
