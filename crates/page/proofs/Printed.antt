-- The page's steps print the lines that the page chooses of the listing, and the year.
use Prim.Native.Nat.{ℕ, zero, suc, ◌+◌}
use mathlib.Core.Path.{◌≡◌, refl, sym, ap, ap₂, ◌∙◌}
use mathlib.Core.List.{List, [], ◌∷◌, ◌++◌, append_assoc}
use mathlib.Core.Bool.{Bool, true, false, not, cond, ◌&&◌}
use native.Mathlib.Nat.{zero-add}
use native.Mathlib.Numerals.{add-one}
use native.Mathlib.Omega.{arith}
use lib.ListN.{length}
use lib.Dec.{eqb}
use borrow.Author.Tests.{ne_eqb}
use Rattle.words.specs.Lists.{sum}
use Rattle.words.proofs.Ints.{never}
use Rattle.words.proofs.Lists.{sum_append}
use Rattle.stream.specs.Stream.{End, Next, next_block, bytes_of_next, after}
use Rattle.stream.specs.Steps.{Outcome, Steps, step, joined, steps_over}
use Rattle.stream.specs.Claims.{BudgetIsEnough}
use Rattle.stream.proofs.Claims.{budget_is_enough}
use Rattle.listing.specs.Lines.{RowLine, Line}
use Rattle.listing.specs.Npalist.{ledger_buffer, opening_listed, interval_listed, block_listed, most_bytes, end_lines, listing_steps, listed}
use Rattle.page.specs.Page.{
  outside_roster,
  on_page,
  chosen,
  figure_on,
  summed,
  year_of,
  opened,
  on_roster,
  opening_of,
  lines_above,
  page_year,
  page_lines,
}
use Rattle.page.specs.Steps.{
  PageState,
  no_lines,
  page_start,
  page_outcome,
  outside_outcome,
  page_opening,
  page_block,
  year_lines,
  page_end,
  page_steps,
}
use Rattle.page.proofs.StepLaws.{chosen_append, end_later, block_later}

-- the sum of a figure over some lines and others
pub summed_append : (f : RowLine → ℕ) (xs ys : List Line) → summed f (xs ++ ys) ≡ summed f xs + summed f ys
unfolding summed
summed_append f xs ys = sum_append (figure_on f) xs ys

-- steps with a budget, from what comes next on
unfoldable pub over_next : {S : Type 0} → Steps Line S → ℕ → ℕ → S → Next → Outcome Line S
over_next p budget number state n =
    let o = step p number state n in
    cond o.on (joined o (steps_over p budget (number + 1) o.state (after n))) o

module _ (id : ℕ) where
  -- the lines that a page chooses of an outcome of the listing, and the year
  abbrev follows : PageState → Outcome Line (List ℕ) → List Line
  follows s o = chosen id o.printed ++ year_lines id (page_outcome id s o).state

  -- the sums over the lines of one outcome and of another
  sums_joined : (f : RowLine → ℕ) (before : ℕ) (first later : List Line)
      → before + summed f (chosen id first) + summed f (chosen id later)
      ≡ before + summed f (chosen id (first ++ later))
  sums_joined f before first later =
      let both = ap (summed f) (chosen_append id first later) ∙ summed_append f (chosen id first) (chosen id later) in
      omega (arith, both)

  -- the state after one outcome and then another
  state_joined : (s : PageState) (first later : Outcome Line (List ℕ))
      → (page_outcome id (page_outcome id s first).state later).state ≡ (page_outcome id s (joined first later)).state
  unfolding page_outcome joined
  state_joined s first later = λ i. record {
    ledger = later.state;
    shortfall = sums_joined (λ r. r.shortfall) s.shortfall first.printed later.printed i;
    bonus = sums_joined (λ r. r.bonus) s.bonus first.printed later.printed i;
  }

  -- what follows of one outcome and then another
  follows_joined : (s : PageState) (first later : Outcome Line (List ℕ))
      → chosen id first.printed ++ follows (page_outcome id s first).state later ≡ follows s (joined first later)
  unfolding joined
  follows_joined s first later =
      sym (append_assoc (chosen id first.printed) (chosen id later.printed) _)
      ∙ ap₂ (λ ls s. ls ++ year_lines id s) (sym (chosen_append id first.printed later.printed))
      (state_joined s first later)

  -- the lines of an end stand on every page
  pub end_chosen : (number : ℕ) (e : End) → chosen id (end_lines number e) ≡ end_lines number e
  unfolding end_lines chosen on_page
  end_chosen number End.ended = by (eqb number 0)
    where
      by : (t : Bool) → chosen id (cond t (Line.cut 0 ∷ []) []) ≡ cond t (Line.cut 0 ∷ []) []
      by true = refl
      by false = refl
  end_chosen number End.cut = refl
  end_chosen number End.over_long = refl

  -- and have no figures
  pub end_none : (f : RowLine → ℕ) (number : ℕ) (e : End) → summed f (end_lines number e) ≡ 0
  unfolding end_lines summed sum figure_on
  end_none f number End.ended = by (eqb number 0)
    where
      by : (t : Bool) → sum (figure_on f) (cond t (Line.cut 0 ∷ []) []) ≡ 0
      by true = refl
      by false = refl
  end_none f number End.cut = refl
  end_none f number End.over_long = refl

  -- so an end leaves the state
  end_state : (number : ℕ) (s : PageState) (e : End)
      → s ≡ (page_outcome id s (record { printed = end_lines number e; state = s.ledger; on = false })).state
  unfolding page_outcome
  end_state number s e =
      let none : (f : RowLine → ℕ) → summed f (chosen id (end_lines number e)) ≡ 0 = λ f. ap (summed f)
      (end_chosen number e) ∙ end_none f number e in
      let same : (f : RowLine → ℕ) (n : ℕ) → n ≡ n + summed f (chosen id (end_lines number e)) = λ f n. omega
      (arith, none f) in
      λ i. record { ledger = s.ledger; shortfall = same (λ r. r.shortfall) s.shortfall i; bonus = same (λ r. r.bonus) s.bonus i }

  -- a block after the opening, for the listing
  pub listed_block : (budget number : ℕ) (l bytes rest : List ℕ) → (number ≡ 0 → ⊥)
      → over_next listing_steps budget number l (Next.block bytes rest)
      ≡ joined (interval_listed number l bytes) (steps_over listing_steps budget (number + 1) (interval_listed number l bytes).state rest)
  unfolding over_next step listing_steps block_listed interval_listed after
  listed_block budget number l bytes rest later =
      ap (λ t. let o = cond t (opening_listed l bytes) (interval_listed number l bytes) in
      cond o.on (joined o (steps_over listing_steps budget (number + 1) o.state rest)) o) (ne_eqb number 0 later)

  -- and for the page
  paged_block : (budget number : ℕ) (s : PageState) (bytes rest : List ℕ) → (number ≡ 0 → ⊥)
      → over_next (page_steps id) budget number s (Next.block bytes rest)
      ≡ (let o = page_outcome id s (interval_listed number s.ledger bytes) in joined o (steps_over (page_steps id) budget (number + 1) o.state rest))
  unfolding over_next step page_steps after page_outcome interval_listed
  paged_block budget number s bytes rest later =
      ap (λ o. cond o.on (joined o (steps_over (page_steps id) budget (number + 1) o.state rest)) o)
      (block_later id number s bytes later)

  -- what is known of the steps from a block after the opening on
  abbrev Later : ℕ → Type 0
  Later budget = (number : ℕ) (s : PageState) (stream : List ℕ) → (number ≡ 0 → ⊥)
      → (steps_over listing_steps budget number s.ledger stream).on ≡ false
      → (steps_over (page_steps id) budget number s stream).printed
      ≡ follows s (steps_over listing_steps budget number s.ledger stream)

  -- where the stream stops there
  later_stop : (budget number : ℕ) (s : PageState) (e : End) → (number ≡ 0 → ⊥)
      → (over_next (page_steps id) budget number s (Next.stop e)).printed
      ≡ follows s (over_next listing_steps budget number s.ledger (Next.stop e))
  unfolding over_next step page_steps listing_steps
  later_stop budget number s e some =
      sym (end_later id number s e some)
      ∙ ap₂ (λ ls s. ls ++ year_lines id s) (sym (end_chosen number e)) (end_state number s e)

  -- one outcome of the page, and those after it
  goes_on : (budget number : ℕ) (s : PageState) (o : Outcome Line (List ℕ)) (rest : List ℕ) → Later budget
      → (number + 1 ≡ 0 → ⊥)
      → (steps_over listing_steps budget (number + 1) o.state rest).on ≡ false
      → (joined (page_outcome id s o) (steps_over (page_steps id) budget (number + 1) (page_outcome id s o).state rest)).printed
      ≡ follows s (joined o (steps_over listing_steps budget (number + 1) o.state rest))
  unfolding joined page_outcome
  goes_on budget number s o rest below some off =
      ap (λ ls. chosen id o.printed ++ ls) (below (number + 1) (page_outcome id s o).state rest some off)
      ∙ follows_joined s o (steps_over listing_steps budget (number + 1) o.state rest)

  -- what goes on after an outcome goes on after both
  off_later : (first later : Outcome Line (List ℕ)) → (joined first later).on ≡ false → later.on ≡ false
  unfolding joined
  off_later first later off = off

  -- from what comes next on
  later_next : (budget : ℕ) → Later budget → (number : ℕ) (s : PageState) (n : Next) → (number ≡ 0 → ⊥)
      → (over_next listing_steps budget number s.ledger n).on ≡ false
      → (over_next (page_steps id) budget number s n).printed
      ≡ follows s (over_next listing_steps budget number s.ledger n)
  later_next budget below number s (Next.stop e) some off = later_stop budget number s e some
  later_next budget below number s (Next.block bytes rest) some off =
      let o = interval_listed number s.ledger bytes in
      let first = listed_block budget number s.ledger bytes rest some in
      let rest_off = off_later o (steps_over listing_steps budget (number + 1) o.state rest)
      (sym (ap (λ o. o.on) first) ∙ off) in
      ap (λ o. o.printed) (paged_block budget number s bytes rest some)
      ∙ goes_on budget number s o rest below (λ z. omega arith) rest_off
      ∙ ap (follows s) (sym first)

  -- after the opening the page's steps print what follows of the listing's
  later : (budget : ℕ) → Later budget
  unfolding steps_over over_next page_steps listing_steps
  later zero number s stream some off = never (sym off)
  later (suc budget) number s stream some off =
      later_next budget (later budget) number s (next_block (most_bytes number) stream) some off

  -- the page of a listing that began with an outcome o, and left all,
  -- by whether the opening was accepted and the id is on its roster
  unfoldable page_by : Bool → Bool → Outcome Line (List ℕ) → List Line
  page_by on known all =
      cond on (cond known (follows page_start all) (Line.refused 0 outside_roster ∷ [])) (chosen id all.printed)

  -- a whole block that comes first
  module _ (budget : ℕ) (below : Later budget) (bytes rest : List ℕ) where
    -- the step on it, of the listing
    abbrev o : Outcome Line (List ℕ)
    o = opening_listed ledger_buffer bytes

    -- and what comes of it
    unfoldable whole : Outcome Line (List ℕ)
    whole = joined o (steps_over listing_steps budget 1 o.state rest)

    -- by whether it is accepted
    listed_first : (on : Bool) → o.on ≡ on
        → over_next listing_steps budget 0 ledger_buffer (Next.block bytes rest) ≡ cond on whole o
    unfolding over_next step listing_steps block_listed after whole
    listed_first on e = ap (λ t. cond t (joined o (steps_over listing_steps budget 1 o.state rest)) o) e

    -- what comes of an outcome of the page
    abbrev onwards : Outcome Line PageState → Outcome Line PageState
    onwards q = cond q.on (joined q (steps_over (page_steps id) budget 1 q.state rest)) q

    -- the page's outcome, by whether the opening is accepted and the id on its roster
    paged_first : (on known : Bool) → o.on ≡ on → on_roster id bytes ≡ known
        → over_next (page_steps id) budget 0 page_start (Next.block bytes rest)
        ≡ onwards (cond (on && not known) (outside_outcome page_start o) (page_outcome id page_start o))
    unfolding over_next step page_steps page_block page_opening after page_start no_lines
    paged_first on known e f =
        ap₂ (λ t u. onwards (cond (t && not u) (outside_outcome page_start o) (page_outcome id page_start o))) e f

    -- it prints the page
    first_block : (on known : Bool) → o.on ≡ on → on_roster id bytes ≡ known → (cond on whole o).on ≡ false
        → (onwards (cond (on && not known) (outside_outcome page_start o) (page_outcome id page_start o))).printed
        ≡ page_by on known (cond on whole o)
    unfolding page_by outside_outcome page_outcome whole
    first_block true false e f off = refl
    first_block true true e f off =
        ap (λ t. (cond t (joined (page_outcome id page_start o) (steps_over (page_steps id) budget 1 (page_outcome id page_start o).state rest)) (page_outcome id page_start o)).printed) e
        ∙ goes_on budget 0 page_start o rest below (λ z. omega arith)
        (off_later o (steps_over listing_steps budget 1 o.state rest) off)
    first_block false known e f off =
        ap (λ t. (cond t (joined (page_outcome id page_start o) (steps_over (page_steps id) budget 1 (page_outcome id page_start o).state rest)) (page_outcome id page_start o)).printed) e

  -- the first block, or an end in its place
  first_next : (budget : ℕ) → Later budget → (n : Next) → (over_next listing_steps budget 0 ledger_buffer n).on ≡ false
      → (over_next (page_steps id) budget 0 page_start n).printed
      ≡ page_by (step listing_steps 0 ledger_buffer n).on (on_roster id (bytes_of_next n))
      (over_next listing_steps budget 0 ledger_buffer n)
  unfolding step bytes_of_next listing_steps block_listed
  first_next budget below (Next.stop e) off = unfold over_next step page_steps page_end page_by in sym (end_chosen 0 e)
  first_next budget below (Next.block bytes rest) off =
      let on = (opening_listed ledger_buffer bytes).on in
      let known = on_roster id bytes in
      let all = listed_first budget below bytes rest on refl in
      ap (λ o. o.printed) (paged_first budget below bytes rest on known refl refl)
      ∙ first_block budget below bytes rest on known refl refl (sym (ap (λ o. o.on) all) ∙ off)
      ∙ ap (page_by on known) (sym all)

  -- with a budget of some steps, the page's print what is made of the listing's
  with_budget : (budget : ℕ) (stream : List ℕ) → (steps_over listing_steps (suc budget) 0 ledger_buffer stream).on ≡ false
      → (steps_over (page_steps id) (suc budget) 0 page_start stream).printed
      ≡ page_by (opened stream) (on_roster id (opening_of stream))
      (steps_over listing_steps (suc budget) 0 ledger_buffer stream)
  unfolding steps_over over_next page_steps listing_steps opened opening_of most_bytes
  with_budget budget stream off = first_next budget (later budget) (next_block (most_bytes 0) stream) off

  -- from no lines the sums are those of the lines
  follows_start : (all : Outcome Line (List ℕ)) → let above = chosen id all.printed in
      follows page_start all ≡ above
      ++ (Line.year (year_of id (summed (λ r. r.shortfall) above) (summed (λ r. r.bonus) above) all.state) ∷ [])
  unfolding page_outcome page_start no_lines year_lines
  follows_start all =
      let above = chosen id all.printed in
      ap₂ (λ m n. above ++ (Line.year (year_of id m n all.state) ∷ [])) (zero-add (summed (λ r. r.shortfall) above))
      (zero-add (summed (λ r. r.bonus) above))

  -- what is made of the listing is the page
  page_is : (stream : List ℕ)
      → page_by (opened stream) (on_roster id (opening_of stream)) (listed stream) ≡ page_lines id stream
  unfolding page_by page_lines lines_above page_year
  page_is stream =
      ap (λ ls. cond (opened stream) (cond (on_roster id (opening_of stream)) ls (Line.refused 0 outside_roster ∷ [])) (chosen id (listed stream).printed))
      (follows_start (listed stream))

  -- the page's steps print the page
  pub steps_print : (stream : List ℕ)
      → (steps_over (page_steps id) (length stream + 1) 0 page_start stream).printed ≡ page_lines id stream
  unfolding listed BudgetIsEnough
  steps_print stream =
      let one = add-one (length stream) in
      let off = budget_is_enough _ _ listing_steps (suc (length stream)) 0 ledger_buffer stream (omega arith) in
      ap (λ b. (steps_over (page_steps id) b 0 page_start stream).printed) one
      ∙ with_budget (length stream) stream off
      ∙ ap (λ b. page_by (opened stream) (on_roster id (opening_of stream)) (steps_over listing_steps b 0 ledger_buffer stream)) (sym one)
      ∙ page_is stream
