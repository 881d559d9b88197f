-- A plant's page block by block, with the ledger and two sums as the state.
use Rattle.std.specs.Prelude.{ℕ, ◌+◌, List, [], ◌∷◌, ◌++◌, true, false, cond, not, ◌&&◌, length, ltb, eqb}
use Rattle.words.specs.Words.{number}
use Rattle.stream.specs.Stream.{End, next_block}
use Rattle.stream.specs.Steps.{Outcome, Steps, step}
use Rattle.listing.specs.Lines.{Line}
use Rattle.listing.specs.Npalist.{ledger_buffer, opening_listed, interval_listed, most_bytes, end_lines}
use Rattle.page.specs.Page.{id_word_bytes, outside_roster, chosen, summed, year_of, on_roster}

-- after some blocks: the ledger, and the sums over the page's lines
pub record PageState : Type 0 where
  pub ledger : List ℕ
  pub shortfall : ℕ
  pub bonus : ℕ

-- no line yet
unfoldable pub no_lines : List ℕ → PageState
no_lines ledger = record { ledger = ledger; shortfall = 0; bonus = 0 }

-- before any block
unfoldable pub page_start : PageState
page_start = no_lines ledger_buffer

-- the step on what was read of the id word: the id, and a cut in block 0 where the word is not whole
unfoldable pub id_outcome : List ℕ → Outcome Line ℕ
id_outcome word =
    cond (ltb (length word) id_word_bytes)
    (record { printed = Line.cut 0 ∷ []; state = 0; on = false })
    (record { printed = []; state = number id_word_bytes word; on = true })

-- what the page takes of a step of the listing
unfoldable pub page_outcome : ℕ → PageState → Outcome Line (List ℕ) → Outcome Line PageState
page_outcome id s o =
    let lines = chosen id o.printed in
    record {
      printed = lines;
      state = record {
        ledger = o.state;
        shortfall = s.shortfall + summed (λ r. r.shortfall) lines;
        bonus = s.bonus + summed (λ r. r.bonus) lines;
      };
      on = o.on;
    }

-- the refusal of an id outside the roster, after which the page ends
unfoldable pub outside_outcome : PageState → Outcome Line (List ℕ) → Outcome Line PageState
outside_outcome s o = record {
  printed = Line.refused 0 outside_roster ∷ [];
  state = record { ledger = o.state; shortfall = s.shortfall; bonus = s.bonus };
  on = false;
}

-- the opening block: once it is accepted, the id is looked for on its roster
unfoldable pub page_opening : ℕ → PageState → List ℕ → Outcome Line PageState
page_opening id s block =
    let o = opening_listed s.ledger block in
    cond (o.on && not (on_roster id block)) (outside_outcome s o) (page_outcome id s o)

-- a block
unfoldable pub page_block : ℕ → ℕ → PageState → List ℕ → Outcome Line PageState
page_block id number s bytes =
    cond (eqb number 0) (page_opening id s bytes) (page_outcome id s (interval_listed number s.ledger bytes))

-- the year line
unfoldable pub year_lines : ℕ → PageState → List Line
year_lines id s = Line.year (year_of id s.shortfall s.bonus s.ledger) ∷ []

-- the lines at an end: after the opening the year comes last
unfoldable pub page_end : ℕ → ℕ → PageState → End → List Line
page_end id number s e = cond (eqb number 0) (end_lines number e) (end_lines number e ++ year_lines id s)

-- the steps over a plant's page
unfoldable pub page_steps : ℕ → Steps Line PageState
page_steps id = record { most = most_bytes; block = page_block id; last = page_end id }

-- the step on what comes next in a stream s
abbrev pub next_paged : ℕ → ℕ → PageState → List ℕ → Outcome Line PageState
next_paged id number p s = step (page_steps id) number p (next_block (most_bytes number) s)
