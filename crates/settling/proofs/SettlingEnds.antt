-- The ends of a call of settling, by the code's tests: refused before the charges are known, refused by the pool, and
-- settled.
use Prim.Native.Nat.{ℕ, ◌≤◌}
use mathlib.Core.Path.{◌≡◌, sym, ap, ◌∙◌, subst}
use mathlib.Core.List.{List}
use mathlib.Core.Bool.{Bool, true, false}
use native.Mathlib.Omega.{arith}
use lib.ListN.{length}
use borrow.Author.Tests.{le-ltb, ltb-false, ne_eqb}
use Rattle.words.specs.Words.{written}
use Rattle.words.specs.Grounds.{answered}
use Rattle.reading.specs.Block.{leap_year, terms_outside}
use Rattle.reading.specs.Interval.{not_a_file, header_of}
use Rattle.reading.specs.Values.{header_in, HeaderRead}
use Rattle.reading.specs.declared.file.File.{File as FileValue}
use Rattle.reading.specs.declared.header.Header.{Header as HeaderValue}
use Rattle.reading.proofs.Bounds.{terms_in_lem}
use Rattle.reading.proofs.Facts.{row_count_lem}
use Rattle.assessment.specs.Assessment.{most_cents, Assessed, pool}
use Rattle.ledger.specs.Ledger.{ledger_of, ledger_words, not_a_ledger}
use Rattle.ledger.specs.Values.{LedgerRead}
use Rattle.ledger.specs.declared.layout.Standing.{Standing as StandingValue}
use Rattle.ledger.proofs.Sound.{said}
use Rattle.settling.specs.Settling.{
  result_bytes,
  result_words,
  assessed_file,
  pool_too_large,
  settled_ledger,
  later_grounds,
  grounds_before_pool,
  SettlingAnswer,
  settling,
}
use Rattle.settling.specs.Values.{Passed}
use Rattle.settling.proofs.SettlingTests.{
  same_days,
  unrefused,
  passed,
  before_6,
  before_7,
  before_later,
  refused_before,
  refused_16,
  accepted_all,
}

-- an answer, a ledger and a result as an answer has them, in the clauses of `settle_file`
abbrev pub Answers : ℕ → List ℕ → List ℕ → SettlingAnswer → Type 0
Answers g ledger result a =
    record { answer : g ≡ a.refusal; ledger_bytes : ledger ≡ a.ledger; result_bytes : result ≡ a.result }

-- where an answer is known whole, so are its clauses
answers : {g : ℕ} {ledger result : List ℕ} {a : SettlingAnswer}
    → a ≡ record { refusal = g; ledger = ledger; result = result } → Answers g ledger result a
answers a = record {
  answer = sym (ap (λ a. a.refusal) a);
  ledger_bytes = sym (ap (λ a. a.ledger) a);
  result_bytes = sym (ap (λ a. a.result) a);
}

module _ (l f r : List ℕ) where
  -- where one of grounds 6 to 15 refuses, settling answers it and leaves both buffers as they were
  pub end_refused : (g : ℕ) → g ≡ answered (grounds_before_pool l f r) → (g ≡ 0 → ⊥) → Answers g l r (settling l f r)
  end_refused g e some =
      let refused = refused_before l f r (ne_eqb (answered (grounds_before_pool l f r)) 0 (λ z. some (e ∙ z))) in
      rw e (answers refused)

  -- a buffer that holds no ledger is refused on ground 6
  pub end_6 : not_a_ledger l ≡ true → Answers 6 l r (settling l f r)
  end_6 e = end_refused 6 (sym (before_6 l f r e)) (λ z. omega arith)

  -- past ground 6, bytes that are no file are refused on ground 7
  module _ (holds : not_a_ledger l ≡ false) {no_file : Bool} (asks : no_file ≡ not_a_file f) where
    pub end_7 : no_file ≡ true → Answers 7 l r (settling l f r)
    end_7 e = end_refused 7 (sym (before_7 l f r holds (sym asks ∙ e))) (λ z. omega arith)

    -- past ground 7, the first of grounds 8 to 15 is answered
    module _ (a_file : no_file ≡ false) {b : List ℕ} (same : b ≡ l) {ground : ℕ}
        (later : ground ≡ answered (later_grounds b f r)) where
      before : answered (grounds_before_pool l f r) ≡ ground
      before =
          before_later l f r holds (sym asks ∙ a_file) ∙ ap (λ b. answered (later_grounds b f r)) (sym same) ∙ sym later

      pub end_later : (ground ≡ 0 → ⊥) → Answers ground l r (settling l f r)
      end_later some = end_refused ground (sym before) some

      -- past ground 15, the pool decides
      module _ (none : ground ≡ 0) where
        -- where it is too large, the call is refused on ground 16
        pub end_16 : pool_too_large (assessed_file l f) ≡ true → Answers 16 l r (settling l f r)
        end_16 p = answers (refused_16 l f r (before ∙ none) p)

        -- else settling answers 0 and leaves the settled ledger and the result
        pub end_settled : {x y : List ℕ} → pool (assessed_file l f) ≤ most_cents
            → x ≡ written (ledger_words (settled_ledger l f)) l
            → y ≡ written (result_words (assessed_file l f)) r → Answers 0 x y (settling l f r)
        unfolding pool_too_large
        end_settled small ledger result =
            let accepted = accepted_all l f r (before ∙ none) (le-ltb most_cents (pool (assessed_file l f)) small) in
            rw (ledger, result) (answers accepted)

-- a file as the code holds it once grounds 6 to 15 are ruled out
module _ (l f r : List ℕ) {b : List ℕ} {s : StandingValue} (ledger : LedgerRead b s) (same : b ≡ l) (v : FileValue)
    {h : HeaderValue}
    (told : record { answer : 0 ≡ answered (later_grounds b f r); scanned : (v.bytes.now ≡ f) × (v.header ≡ h) }) where
  none : answered (later_grounds b f r) ≡ 0
  none = sym told.answer

  file : HeaderRead f v.header
  file = subst (λ f. HeaderRead f v.header) told.scanned.0 v.tabled.read

  -- is with its ledger as settling relies on
  pub ruled_out : Passed l s v.bytes.now v.header
  ruled_out =
      subst (λ l. Passed l s v.bytes.now v.header) same
      (subst (λ f. Passed b s f v.header) (sym told.scanned.0) (passed b f r ledger file none))

  -- the result buffer has room for its rows
  pub result_room : result_bytes v.header.rows ≤ length r
  result_room = subst (λ n. result_bytes n ≤ length r) (sym (row_count_lem file)) (unrefused b f r none).room

  -- its header has the days of a year
  pub days_of_year : v.header.days ≤ leap_year
  unfolding header_in
  days_of_year =
      let days = same_days (ledger_of b).terms (header_of f) (unrefused b f r none).terms in
      let known = subst (λ t. terms_outside t ≡ false) (said b s ledger.says).terms ledger.terms in
      omega (arith, ap (λ h. h.days) file.says, days, (terms_in_lem (ledger_of b).terms known).days)

-- where the pool of the charges is not too large, it is within its bound
pub pool_passed : (v : Assessed) {large : Bool} → large ≡ pool_too_large v → large ≡ false → pool v ≤ most_cents
unfolding pool_too_large
pool_passed v asks within = ltb-false most_cents (pool v) (sym asks ∙ within)
