-- What the tests that settling makes, one after the other, say of its answer.
use Prim.Native.Nat.{ℕ, ◌≤◌, ◌<◌}
use mathlib.Core.Path.{◌≡◌, refl, sym, ap, ap₂, ◌∙◌}
use mathlib.Core.List.{List, [], ◌∷◌, ◌++◌}
use mathlib.Core.Bool.{Bool, true, false, cond, not, true≢false}
use native.Mathlib.Omega.{arith}
use lib.ListN.{length}
use lib.Dec.{ltb, eqb}
use borrow.Author.Tests.{lt-ltb, le-ltb, eqb-true, eqb-false, eq-eqb, ne_eqb}
use Rattle.words.specs.Lists.{any}
use Rattle.words.specs.Grounds.{answered}
use Rattle.words.proofs.Tests.{facts, not_first, not_second}
use Rattle.words.proofs.Grounds.{none_applies}
use Rattle.reading.specs.Block.{Terms, leap_year}
use Rattle.reading.specs.Interval.{
  most_rows,
  Header,
  header_of,
  rows_of,
  not_a_file,
  header_outside,
  tables_misplaced,
  row_grounds,
}
use Rattle.reading.specs.Values.{terms_in, header_in, HeaderRead, Tabled, Scanned}
use Rattle.reading.specs.declared.header.Header.{Header as HeaderValue}
use Rattle.reading.proofs.Bounds.{terms_in_lem}
use Rattle.reading.proofs.Facts.{tabled, row_count_lem}
use Rattle.ledger.specs.Ledger.{ledger_of, not_a_ledger}
use Rattle.ledger.specs.Values.{standing_in, LedgerRead}
use Rattle.ledger.specs.declared.layout.Standing.{Standing as StandingValue}
use Rattle.settling.specs.Settling.{
  result_bytes,
  assessed_file,
  other_terms,
  too_early,
  row_ids_unknown,
  result_too_short,
  pool_too_large,
  later_grounds,
  grounds_before_pool,
  settling_grounds,
  settling,
}
use Rattle.settling.specs.Values.{Passed}
use Rattle.settling.proofs.SettlingAnswers.{settled_answer, settling_accepts, settling_refuses}

-- two lists of grounds answer as the first does, where that is not 0
answered_front : (gs later : List (Bool × ℕ)) → eqb (answered gs) 0 ≡ false → answered (gs ++ later) ≡ answered gs
unfolding answered
answered_front [] later e = absurd (true≢false e)
answered_front (g ∷ gs) later e = by g.0 e (answered_front gs later)
  where
    by : (t : Bool) → eqb (cond t g.1 (answered gs)) 0 ≡ false
        → (eqb (answered gs) 0 ≡ false → answered (gs ++ later) ≡ answered gs)
        → cond t g.1 (answered (gs ++ later)) ≡ cond t g.1 (answered gs)
    by true q rest = refl
    by false q rest = rest q

-- and as the second does, where it is 0 (no ground has the number 0)
answered_later : (gs later : List (Bool × ℕ)) → any (λ g. eqb g.1 0) gs ≡ false → answered gs ≡ 0
    → answered (gs ++ later) ≡ answered later
unfolding any answered
answered_later [] later k e = refl
answered_later (g ∷ gs) later k e = by g.0 e (answered_later gs later others)
  where
    others : any (λ g. eqb g.1 0) gs ≡ false
    others = not_second (eqb g.1 0) (any (λ g. eqb g.1 0) gs) k

    numbered : g.1 ≡ 0 → ⊥
    numbered = eqb-false g.1 0 (not_first (eqb g.1 0) (any (λ g. eqb g.1 0) gs) k)

    by : (t : Bool) → cond t g.1 (answered gs) ≡ 0 → (answered gs ≡ 0 → answered (gs ++ later) ≡ answered later)
        → cond t g.1 (answered (gs ++ later)) ≡ answered later
    by true q rest = absurd (numbered q)
    by false q rest = rest q

-- where Net CONE differs, ground 8 refuses
pub cone_other : (t : Terms) (u : Header) → (u.net_cone ≡ t.net_cone → ⊥) → other_terms t u ≡ true
unfolding other_terms
cone_other t u h = rw (ne_eqb u.net_cone t.net_cone h)

-- where it is the same, ground 8 refuses just if the days differ
pub days_decide : (t : Terms) (u : Header) → u.net_cone ≡ t.net_cone → other_terms t u ≡ not (eqb u.days t.days)
unfolding other_terms
days_decide t u h = rw (eq-eqb u.net_cone t.net_cone h)

-- where ground 8 does not refuse, a file has the days of the ledger
pub same_days : (t : Terms) (u : Header) → other_terms t u ≡ false → u.days ≡ t.days
unfolding other_terms
same_days t u e = search facts

-- values read from a ledger and a file that grounds 6 and 7 do not refuse, and a result buffer
module _ (l f r : List ℕ) {s : StandingValue} {h : HeaderValue} (ledger : LedgerRead l s) (file : HeaderRead f h) where
  -- the terms of the values differ just where ground 8 refuses
  terms_said : other_terms (ledger_of l).terms (header_of f) ≡ other_terms (terms_in s.terms) (header_in h)
  unfolding ledger_of standing_in
  terms_said = ap₂ other_terms (ap (λ s. s.terms) (sym ledger.says)) (sym file.says)

  -- ground 9 goes by the header's values
  header_said_lem : header_outside (header_of f) ≡ header_outside (header_in h)
  header_said_lem = ap header_outside (sym file.says)

  -- ground 10 goes by the two intervals
  early_said : too_early l f ≡ ltb h.interval s.earliest
  unfolding too_early ledger_of standing_in header_in
  early_said = ap₂ ltb (ap (λ h. h.interval) (sym file.says)) (ap (λ s. s.earliest) (sym ledger.says))

  -- ground 15 goes by the number of rows
  room_said : result_too_short f r ≡ ltb (length r) (result_bytes h.rows)
  unfolding result_too_short
  room_said = ap (λ n. ltb (length r) (result_bytes n)) (sym (row_count_lem file))

  -- where the code's test of the tables says that they are not misplaced, they lie within the file
  pub tables_read : {misplaced : Bool} → misplaced ≡ tables_misplaced f → misplaced ≡ false → Tabled f h
  tables_read tables placed = tabled file (sym tables ∙ placed)

  -- and there are no more than the most rows
  pub rows_few_read : {misplaced : Bool} → misplaced ≡ tables_misplaced f → misplaced ≡ false → h.rows ≤ most_rows
  rows_few_read tables placed = (tables_read tables placed).rows_few

  -- the first of grounds 8 to 15 that applies
  abbrev answer : ℕ
  answer = answered (later_grounds l f r)

  -- the code's tests, one after the other: of the terms,
  module _ {other : Bool} (terms : other ≡ other_terms (terms_in s.terms) (header_in h)) where
    -- terms other than the ledger's are answered 8
    pub later_8 : other ≡ true → 8 ≡ answer
    unfolding answered later_grounds
    later_8 e = rw (terms_said, sym terms ∙ e)

    module _ (same : other ≡ false) where
      -- past ground 8
      e₈ : other_terms (ledger_of l).terms (header_of f) ≡ false
      e₈ = terms_said ∙ sym terms ∙ same

      -- with the ledger's days, a file has those of a year
      pub days_inside : h.days ≤ leap_year
      unfolding header_in
      days_inside =
          let t = terms_in s.terms in
          omega (arith, (terms_in_lem t ledger.terms).days, same_days t (header_in h) (sym terms ∙ same))

      -- of the header,
      module _ {outside : Bool} (header : outside ≡ header_outside (header_in h)) where
        -- a header out of range is answered 9
        pub later_9 : outside ≡ true → 9 ≡ answer
        unfolding answered later_grounds
        later_9 e = rw (e₈, header_said_lem, sym header ∙ e)

        module _ (inside : outside ≡ false) where
          -- past ground 9
          e₉ : header_outside (header_of f) ≡ false
          e₉ = header_said_lem ∙ sym header ∙ inside

          -- an interval before the ledger's earliest is answered 10
          pub later_10 : h.interval < s.earliest → 10 ≡ answer
          unfolding answered later_grounds
          later_10 k = rw (e₈, e₉, early_said, lt-ltb h.interval s.earliest k)

          module _ (due : s.earliest ≤ h.interval) where
            -- past ground 10
            e₁₀ : too_early l f ≡ false
            e₁₀ = early_said ∙ le-ltb h.interval s.earliest due

            -- of the tables,
            module _ {misplaced : Bool} (tables : misplaced ≡ tables_misplaced f) where
              -- misplaced tables are answered 11
              pub later_11 : misplaced ≡ true → 11 ≡ answer
              unfolding answered later_grounds
              later_11 e = rw (e₈, e₉, e₁₀, sym tables ∙ e)

              -- of the rows' ids,
              module _ (placed : misplaced ≡ false) {unknown : Bool}
                  (ids : unknown ≡ row_ids_unknown (ledger_of l) (rows_of f)) where
                -- row ids that do not rise or have no account are answered 12
                pub later_12 : unknown ≡ true → 12 ≡ answer
                unfolding answered later_grounds
                later_12 e = rw (e₈, e₉, e₁₀, sym tables ∙ placed, sym ids ∙ e)

                -- and of the rows: where no ground before applies, these and the room decide
                module _ (known : unknown ≡ false) {ground : ℕ} (scan : ground ≡ answered (row_grounds f)) where
                  rows_decide : answer ≡ answered (row_grounds f ++ ((result_too_short f r, 15) ∷ []))
                  unfolding answered later_grounds
                  rows_decide = rw (e₈, e₉, e₁₀, sym tables ∙ placed, sym ids ∙ known)

                  -- a ground of the rows, 13, 18 or 14, is answered
                  pub later_rows : (ground ≡ 0 → ⊥) → ground ≡ answer
                  later_rows some =
                      let found = ne_eqb (answered (row_grounds f)) 0 (λ z. some (scan ∙ z)) in
                      sym (rows_decide
                      ∙ answered_front (row_grounds f) ((result_too_short f r, 15) ∷ []) found ∙ sym scan)

                  -- past it
                  module _ (scanned : ground ≡ 0) {bytes : ℕ} (room : bytes ≡ result_bytes h.rows) where
                    -- the room decides
                    room_decides : answer ≡ cond (ltb (length r) bytes) 15 0
                    unfolding any answered row_grounds
                    room_decides =
                        rows_decide
                        ∙ answered_later (row_grounds f) ((result_too_short f r, 15) ∷ []) refl (sym scan ∙ scanned)
                        ∙ ap (λ (t : Bool). cond t 15 0) (room_said ∙ ap (ltb (length r)) (sym room))

                    -- a result buffer too short for the rows is answered 15
                    pub later_15 : length r < bytes → 15 ≡ answer
                    later_15 k = sym (room_decides ∙ ap (λ (t : Bool). cond t 15 0) (lt-ltb (length r) bytes k))

                    -- one with room for the rows is answered 0
                    pub later_0 : bytes ≤ length r → 0 ≡ answer
                    later_0 k = sym (room_decides ∙ ap (λ (t : Bool). cond t 15 0) (le-ltb (length r) bytes k))

-- by these, search finds what the tests made so far say of grounds 8 to 15
pub ruleset later =
    (later_8, days_inside, later_9, later_10, later_11, tables_read, later_12, later_rows, rows_few_read, later_15, later_0)

-- a ledger, a file and a result buffer that grounds 8 to 15 do not refuse
pub record Unrefused (l f r : List ℕ) : Type 0 where
  pub terms : other_terms (ledger_of l).terms (header_of f) ≡ false
  pub header : header_outside (header_of f) ≡ false
  pub tables : tables_misplaced f ≡ false
  pub ids : row_ids_unknown (ledger_of l) (rows_of f) ≡ false
  pub scanned : Scanned f
  pub room : result_bytes (header_of f).row_count ≤ length r

-- where grounds 8 to 15 answer 0, none of them refuses
pub unrefused : (l f r : List ℕ) → answered (later_grounds l f r) ≡ 0 → Unrefused l f r
unfolding later_grounds row_grounds any result_too_short
unrefused l f r e =
    let none = none_applies (later_grounds l f r) refl e in
    record {
      terms = search facts depth 14;
      header = search facts depth 14;
      tables = search facts depth 14;
      ids = search facts depth 14;
      scanned = record {
        in_range = search facts depth 15;
        schedules = search facts depth 15;
        points = search facts depth 15;
      };
      room = search facts depth 15;
    }

-- where grounds 6 to 15 do not refuse, the values read from ledger and file are as settling relies on
pub passed : (l f r : List ℕ) {s : StandingValue} {h : HeaderValue} → LedgerRead l s → HeaderRead f h
    → answered (later_grounds l f r) ≡ 0 → Passed l s f h
passed l f r ledger file none =
    let u = unrefused l f r none in
    record {
      ledger_read = ledger;
      tabled = tabled file u.tables;
      header_in_hold = ap header_outside file.says ∙ u.header;
      known = u.ids;
      scanned = u.scanned;
    }

-- what the answer of grounds 6 to 15 says of a call
module _ (l f r : List ℕ) where
  -- a buffer that is not a ledger is answered 6
  pub before_6 : not_a_ledger l ≡ true → answered (grounds_before_pool l f r) ≡ 6
  unfolding answered grounds_before_pool
  before_6 e = rw e

  module _ (e₆ : not_a_ledger l ≡ false) where
    -- past ground 6, bytes that are not a file are answered 7
    pub before_7 : not_a_file f ≡ true → answered (grounds_before_pool l f r) ≡ 7
    unfolding answered grounds_before_pool
    before_7 e = rw (e₆, e)

    -- past grounds 6 and 7, grounds 8 to 15 decide
    pub before_later : not_a_file f ≡ false → answered (grounds_before_pool l f r) ≡ answered (later_grounds l f r)
    unfolding answered grounds_before_pool
    before_later e = rw (e₆, e)

  -- where one of them refuses, settling answers it and leaves both buffers as they were
  pub refused_before : eqb (answered (grounds_before_pool l f r)) 0 ≡ false
      → settling l f r ≡ record { refusal = answered (grounds_before_pool l f r); ledger = l; result = r }
  unfolding settling_grounds
  refused_before e =
      let before = answered (grounds_before_pool l f r) in
      let same : answered (settling_grounds l f r) ≡ before = answered_front (grounds_before_pool l f r) _ e in
      settling_refuses l f r (ap (λ g. eqb g 0) same ∙ e)
      ∙ ap (λ (g : ℕ). record { refusal = g; ledger = l; result = r }) same

  module _ (none : answered (grounds_before_pool l f r) ≡ 0) where
    -- where none of them does, the pool decides
    pool_decides : answered (settling_grounds l f r) ≡ cond (pool_too_large (assessed_file l f)) 16 0
    unfolding settling_grounds grounds_before_pool later_grounds row_grounds any answered
    pool_decides = answered_later (grounds_before_pool l f r) ((pool_too_large (assessed_file l f), 16) ∷ []) refl none

    -- a pool that is too large is answered 16, and both buffers stay as they were
    pub refused_16 : pool_too_large (assessed_file l f) ≡ true
        → settling l f r ≡ record { refusal = 16; ledger = l; result = r }
    refused_16 p =
        let same : answered (settling_grounds l f r) ≡ 16 = pool_decides ∙ ap (λ (t : Bool). cond t 16 0) p in
        settling_refuses l f r (ap (λ (g : ℕ). eqb g 0) same)
        ∙ ap (λ (g : ℕ). record { refusal = g; ledger = l; result = r }) same

    -- with a pool that is not too large, the call is accepted
    pub accepted_all : pool_too_large (assessed_file l f) ≡ false → settling l f r ≡ settled_answer l f r
    accepted_all p = settling_accepts l f r (pool_decides ∙ ap (λ (t : Bool). cond t 16 0) p)

  -- where a call of settling answers 0, so do grounds 6 to 15
  pub none_before : (settling l f r).refusal ≡ 0 → answered (grounds_before_pool l f r) ≡ 0
  none_before e = by (eqb (answered (grounds_before_pool l f r)) 0) refl
    where
      by : (t : Bool) → eqb (answered (grounds_before_pool l f r)) 0 ≡ t → answered (grounds_before_pool l f r) ≡ 0
      by true q = eqb-true (answered (grounds_before_pool l f r)) 0 q
      by false q = sym (ap (λ a. a.refusal) (refused_before q)) ∙ e
