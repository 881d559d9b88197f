-- The laws of the page's steps: the id word, the opening, an interval, and the end.
use Prim.Native.Nat.{ℕ, ◌+◌, ◌≤◌, ◌<◌}
use mathlib.Core.Path.{◌≡◌, refl, sym, ap, ap₂, ◌∙◌, subst}
use mathlib.Core.List.{List, [], ◌∷◌, ◌++◌, map, append_assoc, append-nil}
use mathlib.Core.Bool.{Bool, true, false, not, cond, ◌&&◌}
use native.Mathlib.Nat.{zero-add}
use native.Mathlib.Omega.{arith}
use lib.ListN.{length}
use lib.Dec.{eqb}
use borrow.Author.Tests.{eqb-true, eq-eqb, ne_eqb, lt-ltb, le-ltb}
use Rattle.words.specs.Lists.{sum, any}
use Rattle.words.specs.Words.{Bytes, number, number_at}
use Rattle.stream.specs.Stream.{End, Next}
use Rattle.stream.specs.Steps.{Outcome, step}
use Rattle.stream.specs.Code.{StepTaken}
use Rattle.assessment.specs.Assessment.{account_of, limit}
use Rattle.assessment.specs.Values.{account_in}
use Rattle.assessment.specs.declared.account.Account.{Account as AccountValue}
use Rattle.assessment.specs.declared.units.Cents.{Cents}
use Rattle.ledger.specs.Ledger.{ledger_of, ids_in, not_a_ledger}
use Rattle.ledger.specs.Opening.{opening}
use Rattle.reading.specs.Block.{Terms, block_of}
use Rattle.year.specs.Year.{new_year, after_calls, account_by_rows}
use Rattle.year.proofs.Claims.{kept}
use Rattle.listing.specs.Lines.{RowLine, Line, bytes_of_line, bytes_of_lines}
use Rattle.listing.specs.Npalist.{opening_listed, interval_listed, end_lines}
use Rattle.listing.specs.Code.{in_bytes, year_in}
use Rattle.listing.proofs.LineLaws.{one_line, lines_append}
use Rattle.page.specs.Page.{id_word_bytes, outside_roster, on_page, chosen, figure_on, summed, year_of, on_roster}
use Rattle.page.specs.Steps.{
  PageState,
  no_lines,
  id_outcome,
  page_outcome,
  outside_outcome,
  page_opening,
  page_block,
  year_lines,
  page_end,
  page_steps,
}
use Rattle.page.specs.Code.{state_in, Paged, plant_step, PageFits}
use Rattle.page.specs.declared.lines.Page.{Page as PageValue}

-- what the code's figures of a year say, by the account found and the limit of its largest commitment
pub year_says : (b : List ℕ) (p : PageValue) (a : AccountValue) (t : Terms) (most : Cents) → t ≡ (ledger_of b).terms
    → account_in a ≡ account_of p.id (ledger_of b).accounts → most.0 ≡ limit t a.largest.0
    → year_in (record { id = p.id; shortfall = p.shortfall; bonus = p.bonus; charged = a.charged; credited = a.credited; limit = most })
    ≡ year_of p.id p.shortfall.0 p.bonus.0 b
unfolding year_in year_of account_in
year_says b p a t most terms own is =
    let cut = is ∙ ap₂ limit terms (ap (λ a. a.largest) own) in
    λ i. record {
      id = p.id;
      shortfall = p.shortfall.0;
      bonus = p.bonus.0;
      charged = ap (λ a. a.charged) own i;
      credited = ap (λ a. a.credited) own i;
      limit = cut i;
    }

-- the step on an id word that is cut
pub id_cut : (word before out : List ℕ) → length word < id_word_bytes → out ≡ before ++ bytes_of_line (Line.cut 0)
    → StepTaken (in_bytes (id_outcome word)) 0 before out false
unfolding id_outcome in_bytes
id_cut word before out short put =
    rw (lt-ltb (length word) id_word_bytes short)
    (record { leaves = refl; puts = put ∙ ap (λ b. before ++ b) (one_line (Line.cut 0)); goes_on = refl })

-- the step on a whole one
pub id_whole : (word out : List ℕ) (id : ℕ) → id_word_bytes ≤ length word → id ≡ number_at id_word_bytes word 0
    → StepTaken (in_bytes (id_outcome word)) id out out true
unfolding id_outcome in_bytes bytes_of_lines number_at
id_whole word out id long is =
    rw (le-ltb (length word) id_word_bytes long)
    (record { leaves = is; puts = sym (append-nil out); goes_on = refl })

-- the lines of some and of others that stand on a page
pub chosen_append : (id : ℕ) (xs ys : List Line) → chosen id (xs ++ ys) ≡ chosen id xs ++ chosen id ys
unfolding chosen
chosen_append id [] ys = refl
chosen_append id (x ∷ xs) ys = by (on_page id x) (chosen_append id xs ys)
  where
    by : (t : Bool) → chosen id (xs ++ ys) ≡ chosen id xs ++ chosen id ys
        → cond t (x ∷ chosen id (xs ++ ys)) (chosen id (xs ++ ys))
        ≡ cond t (x ∷ chosen id xs) (chosen id xs) ++ chosen id ys
    by true below = ap (λ ls. x ∷ ls) below
    by false below = below

-- an opening: its refusal, if any, stands on every page, and it has no figures
module _ (l block : List ℕ) where
  -- the step of the listing
  abbrev o : Outcome Line (List ℕ)
  o = opening_listed l block

  -- its lines stand on every page
  pub opening_chosen : (id : ℕ) → chosen id o.printed ≡ o.printed
  unfolding opening_listed chosen on_page
  opening_chosen id = by (eqb (opening block l).refusal 0)
    where
      by : (t : Bool) → chosen id (cond t [] (Line.refused 0 (opening block l).refusal ∷ []))
          ≡ cond t [] (Line.refused 0 (opening block l).refusal ∷ [])
      by true = refl
      by false = refl

  -- and have no figures
  opening_none : (figure : RowLine → ℕ) → summed figure o.printed ≡ 0
  unfolding opening_listed summed sum figure_on
  opening_none figure = by (eqb (opening block l).refusal 0)
    where
      by : (t : Bool) → sum (figure_on figure) (cond t [] (Line.refused 0 (opening block l).refusal ∷ [])) ≡ 0
      by true = refl
      by false = refl

  -- so the page has no sums after it
  pub opening_state : (id : ℕ)
      → page_outcome id (no_lines l) o ≡ record { printed = o.printed; state = no_lines o.state; on = o.on }
  unfolding page_outcome no_lines
  opening_state id =
      let same = opening_chosen id in
      let none : (figure : RowLine → ℕ) → 0 + summed figure (chosen id o.printed) ≡ 0 = λ figure.
      zero-add _ ∙ ap (summed figure) same ∙ opening_none figure in
      λ i. record {
        printed = same i;
        state = record { ledger = o.state; shortfall = none (λ r. r.shortfall) i; bonus = none (λ r. r.bonus) i };
        on = o.on;
      }

  -- the page goes on, or stops, as the listing does, where no id is looked for in vain
  opening_paged : (id : ℕ) (after before out : List ℕ) (on : Bool) → (o.on && not (on_roster id block)) ≡ false
      → StepTaken (in_bytes o) after before out on
      → StepTaken (in_bytes (page_opening id (no_lines l) block)) (no_lines after) before out on
  unfolding page_opening in_bytes no_lines
  opening_paged id after before out on known taken =
      let same = ap (λ u. cond u (outside_outcome (no_lines l) o) (page_outcome id (no_lines l) o)) known ∙ opening_state id in
      record {
        leaves = ap no_lines taken.leaves ∙ ap (λ o. o.state) (sym same);
        puts = taken.puts ∙ ap (λ o. before ++ bytes_of_lines o.printed) (sym same);
        goes_on = taken.goes_on ∙ ap (λ o. o.on) (sym same);
      }

  -- it leaves the ledger that opening leaves
  pub opening_leaves : o.state ≡ (opening block l).ledger
  unfolding opening_listed
  opening_leaves = refl

  -- an accepted opening
  module _ (on : o.on ≡ true) where
    -- answers 0
    pub opened_zero : (opening block l).refusal ≡ 0
    unfolding opening_listed
    opened_zero = eqb-true (opening block l).refusal 0 on

    -- prints nothing
    pub opened_silent : o.printed ≡ []
    unfolding opening_listed
    opened_silent = ap (λ t. cond t [] (Line.refused 0 (opening block l).refusal ∷ [])) on

    -- which leaves what the buffer held
    pub opened_same : (after before mid : List ℕ) (on : Bool) → StepTaken (in_bytes o) after before mid on → mid ≡ before
    unfolding in_bytes bytes_of_lines
    opened_same after before mid on taken =
        taken.puts ∙ ap (λ ls. before ++ bytes_of_lines ls) opened_silent ∙ append-nil before

    -- an id outside its roster ends the page with its refusal
    outside_paged : (id : ℕ) (after before mid out : List ℕ) (on : Bool) → on_roster id block ≡ false
        → StepTaken (in_bytes o) after before mid on
        → out ≡ mid ++ bytes_of_line (Line.refused 0 outside_roster)
        → StepTaken (in_bytes (page_opening id (no_lines l) block)) (no_lines after) before out false
    unfolding page_opening outside_outcome in_bytes no_lines
    outside_paged id after before mid out t none taken put =
        let foreign : (o.on && not (on_roster id block)) ≡ true = rw (on, none) in
        let same = ap (λ u. cond u (outside_outcome (no_lines l) o) (page_outcome id (no_lines l) o)) foreign in
        record {
          leaves = ap no_lines taken.leaves ∙ ap (λ o. o.state) (sym same);
          puts = put ∙ ap₂ (λ b c. b ++ c) (opened_same after before mid t taken) (one_line (Line.refused 0 outside_roster))
              ∙ ap (λ o. before ++ bytes_of_lines o.printed) (sym same);
          goes_on = ap (λ o. o.on) (sym same);
        }

    -- leaves a ledger that ground 6 does not refuse, where the block is one of bytes
    opened_holds : Bytes block → not_a_ledger (opening block l).ledger ≡ false
    unfolding after_calls new_year
    opened_holds bytes = (kept block l bytes opened_zero []).holds

    -- with the ids of the block
    opened_ids : Bytes block → ids_in (ledger_of (opening block l).ledger) ≡ (block_of block).ids
    unfolding after_calls new_year ids_in account_by_rows
    opened_ids bytes =
        ap (map (λ a. a.id)) (kept block l bytes opened_zero []).sums.accounts ∙ ids_same (block_of block).ids
      where
        ids_same : (is : List ℕ) → map (λ a. a.id) (map (account_by_rows []) is) ≡ is
        ids_same [] = refl
        ids_same (i ∷ is) = ap (λ js. i ∷ js) (ids_same is)

-- no id is looked for where the opening is not accepted
known_first : (on known : Bool) → on ≡ false → (on && not known) ≡ false
known_first on known off = rw off

-- nor in vain where it is on the roster
known_second : (on known : Bool) → known ≡ true → (on && not known) ≡ false
known_second true known is = rw is
known_second false known is = refl

-- where a listing took a block to open
module _ (l block after before out : List ℕ) (t : Bool) (taken : StepTaken (in_bytes (opening_listed l block)) after before out t) where
  -- it goes on just where the opening is accepted
  pub went_on : (on : Bool) → t ≡ on → (opening_listed l block).on ≡ on
  unfolding in_bytes
  went_on on e = sym taken.goes_on ∙ e

  -- where it is not, the page stops too
  pub stopped_paged : (id : ℕ) → t ≡ false
      → StepTaken (in_bytes (page_opening id (no_lines l) block)) (no_lines after) before out t
  stopped_paged id off = opening_paged l block id after before out t
      (known_first (opening_listed l block).on (on_roster id block) (went_on false off)) taken

  -- where it is, and the block is one of bytes
  module _ (on : t ≡ true) (bytes : Bytes block) where
    -- the ledger is one that ground 6 does not refuse
    pub accepted_holds : not_a_ledger after ≡ false
    unfolding in_bytes opening_listed
    accepted_holds = ap not_a_ledger taken.leaves ∙ opened_holds l block (went_on true on) bytes

    -- nothing is printed
    pub accepted_same : out ≡ before
    accepted_same = opened_same l block (went_on true on) after before out t taken

    -- its ids are the roster
    roster_is : (id : ℕ) → on_roster id block ≡ any (λ i. eqb i id) (ids_in (ledger_of after))
    unfolding on_roster in_bytes opening_listed
    roster_is id =
        ap (any (λ i. eqb i id)) (sym (opened_ids l block (went_on true on) bytes) ∙ ap (λ b. ids_in (ledger_of b)) (sym taken.leaves))

    -- with an id on the roster the page goes on
    pub known_paged : (id : ℕ) (has : Bool) → has ≡ any (λ i. eqb i id) (ids_in (ledger_of after)) → has ≡ true
        → StepTaken (in_bytes (page_opening id (no_lines l) block)) (no_lines after) before out t
    known_paged id has is known = opening_paged l block id after before out t
        (known_second (opening_listed l block).on (on_roster id block) (roster_is id ∙ sym is ∙ known)) taken

    -- with another it ends with the refusal
    pub foreign_paged : (id : ℕ) (has : Bool) → has ≡ any (λ i. eqb i id) (ids_in (ledger_of after)) → has ≡ false
        → (last : List ℕ) → last ≡ out ++ bytes_of_line (Line.refused 0 outside_roster)
        → StepTaken (in_bytes (page_opening id (no_lines l) block)) (no_lines after) before last false
    foreign_paged id has is unknown last =
        outside_paged l block (went_on true on) id after before out last t (roster_is id ∙ sym is ∙ unknown) taken

-- the lines at an end after the opening
pub end_later : (id number : ℕ) (s : PageState) (e : End) → (number ≡ 0 → ⊥)
    → end_lines number e ++ year_lines id s ≡ page_end id number s e
unfolding page_end
end_later id number s e later = sym (rw (ne_eqb number 0 later))

-- and their bytes, once the line of the end and then the year line are put
pub ended_later : (id number : ℕ) (s : PageState) (e : End) (before x out : List ℕ) → (number ≡ 0 → ⊥)
    → x ≡ before ++ bytes_of_lines (end_lines number e)
    → out ≡ x ++ bytes_of_line (Line.year (year_of id s.shortfall s.bonus s.ledger))
    → out ≡ before ++ bytes_of_lines (page_end id number s e)
unfolding year_lines
ended_later id number s e before x out later put year =
    let both = lines_append (end_lines number e) (year_lines id s)
    ∙ ap (λ b. bytes_of_lines (end_lines number e) ++ b) (sym (one_line _)) in
    rw (year, put, append_assoc) (ap (λ b. before ++ b) (sym both ∙ ap bytes_of_lines (end_later id number s e later)))

-- those at one at the opening are the listing's
pub end_first : (id number : ℕ) (s : PageState) (e : End) → number ≡ 0 → page_end id number s e ≡ end_lines number e
unfolding page_end
end_first id number s e first = rw (eq-eqb number 0 first)

-- block 0 is the opening
pub block_first : (id number : ℕ) (s : PageState) (b : List ℕ) → number ≡ 0
    → page_block id number s b ≡ page_opening id s b
unfolding page_block
block_first id number s b first = rw (eq-eqb number 0 first)

-- a block after it is an interval
pub block_later : (id number : ℕ) (s : PageState) (b : List ℕ) → (number ≡ 0 → ⊥)
    → page_block id number s b ≡ page_outcome id s (interval_listed number s.ledger b)
unfolding page_block
block_later id number s b later = rw (ne_eqb number 0 later)

-- the step of a plant's page where the stream stops: at the opening the line of its end is put
pub stopped_first : (number : ℕ) (p : Paged) (before out : List ℕ) (e : End) → number ≡ 0
    → before ≡ [] → out ≡ before ++ bytes_of_lines (end_lines number e)
    → StepTaken (plant_step number p (Next.stop e)) p [] out false
unfolding plant_step step page_steps in_bytes
stopped_first number p before out e first none put = record {
  leaves = refl;
  puts = put ∙ ap₂ (λ b ls. b ++ bytes_of_lines ls) none (sym (end_first p.id number p.state e first));
  goes_on = refl;
}

-- and later the year line after it
pub stopped_later : (number : ℕ) (p : Paged) (before x out : List ℕ) (e : End)
    → (number ≡ 0 → ⊥) → before ≡ [] → x ≡ before ++ bytes_of_lines (end_lines number e)
    → out ≡ x ++ bytes_of_line (Line.year (year_of p.id p.state.shortfall p.state.bonus p.state.ledger))
    → StepTaken (plant_step number p (Next.stop e)) p [] out false
unfolding plant_step step page_steps in_bytes
stopped_later number p before x out e later none put year =
    record {
      leaves = refl;
      puts = rw none at (ended_later p.id number p.state e before x out later put year);
      goes_on = refl;
    }

-- the step on the opening, once a page without lines is opened
pub opened_taken : (number : ℕ) (p : Paged) (m : PageValue) (l after block before out : List ℕ) (on : Bool)
    → record { id = m.id; state = state_in l m } ≡ p → PageFits number p.state → number ≡ 0 → before ≡ []
    → StepTaken (in_bytes (page_opening m.id (no_lines l) block)) (no_lines after) before out on
    → StepTaken (plant_step number p (Next.block block [])) (record { id = m.id; state = state_in after m }) [] out on
unfolding plant_step step page_steps in_bytes state_in no_lines
opened_taken number p m l after block before out on view fits first none taken =
    let none_short : m.shortfall.0 ≡ 0 = omega (arith, fits.shortfall, ap (λ p. p.state.shortfall) view) in
    let none_bonus : m.bonus.0 ≡ 0 = omega (arith, fits.bonus, ap (λ p. p.state.bonus) view) in
    let start : state_in l m ≡ no_lines l = λ i. record { ledger = l; shortfall = none_short i; bonus = none_bonus i } in
    let end : state_in after m ≡ no_lines after = λ i. record { ledger = after; shortfall = none_short i; bonus = none_bonus i } in
    let same = block_first m.id number (state_in l m) block first ∙ ap (λ s. page_opening m.id s block) start in
    subst (λ p. StepTaken (plant_step number p (Next.block block [])) (record { id = m.id; state = state_in after m }) [] out on) view
    (record {
      leaves = λ i. record { id = m.id; state = (end ∙ taken.leaves ∙ ap (λ o. o.state) (sym same)) i };
      puts = taken.puts ∙ ap₂ (λ b o. b ++ bytes_of_lines o.printed) none (sym same);
      goes_on = taken.goes_on ∙ ap (λ o. o.on) (sym same);
    })

-- and on an interval block, once it is settled
pub settled_taken : (number : ℕ) (p : Paged) (m q : PageValue) (l after block before out : List ℕ)
    → record { id = m.id; state = state_in l m } ≡ p → (number ≡ 0 → ⊥) → before ≡ [] → q.id ≡ m.id
    → StepTaken (in_bytes (page_outcome m.id (state_in l m) (interval_listed number l block))) (state_in after q) before out true
    → StepTaken (plant_step number p (Next.block block [])) (record { id = q.id; state = state_in after q }) [] out true
unfolding plant_step step page_steps in_bytes state_in
settled_taken number p m q l after block before out view later none own taken =
    let same = block_later m.id number (state_in l m) block later in
    subst (λ p. StepTaken (plant_step number p (Next.block block [])) (record { id = q.id; state = state_in after q }) [] out true) view
    (record {
      leaves = λ i. record { id = own i; state = (taken.leaves ∙ ap (λ o. o.state) (sym same)) i };
      puts = taken.puts ∙ ap₂ (λ b o. b ++ bytes_of_lines o.printed) none (sym same);
      goes_on = taken.goes_on ∙ ap (λ o. o.on) (sym same);
    })
