-- The proofs of the claims of specs/Claims.antt.
use Prim.Native.Nat.{ℕ, ◌*◌, ◌^◌, ◌<◌, ◌≤◌}
use mathlib.Core.Path.{◌≡◌, refl, sym, ap, subst}
use mathlib.Core.Logic.{◌⊎◌, inl, inr, ⊎_elim}
use mathlib.Core.List.{List, [], Memᴰ}
use mathlib.Core.Bool.{Bool, true, false, not, ◌||◌, ◌&&◌, true≢false}
use native.Mathlib.Omega.{arith}
use lib.ListN.{length, length-map, drop}
use lib.Dec.{eqb, leb}
use borrow.Author.Tests.{eqb-true, leb-true, not-false}
use Rattle.words.specs.Lists.{any}
use Rattle.words.specs.Words.{Bytes, number_at, word64, written, words_in}
use Rattle.words.specs.Grounds.{answered, outside}
use Rattle.words.proofs.Words.{number_at_lt, drop_bytes, entries_all, words_back, length_written, beyond_written}
use Rattle.words.proofs.Tests.{either, not_outside}
use Rattle.words.proofs.Grounds.{answered_passed}
use Rattle.reading.specs.Interval.{row_grounds}
use Rattle.assessment.specs.Assessment.{Account, Assessed, credit}
use Rattle.ledger.specs.Ledger.{ledger_header_bytes, account_bytes, account_at, account_count, ledger_of, ledger_words}
use Rattle.ledger.specs.Opening.{opening_grounds, opened_ledger, opening}
use Rattle.settling.proofs.SettledLaws.{rows_count}
use Rattle.settling.specs.Settling.{
  result_bytes,
  assessed_file,
  summary_words,
  result_words,
  posted_all,
  later_grounds,
  grounds_before_pool,
  settling_grounds,
  settled_ledger,
  settling,
}
use Rattle.year.specs.Year.{Call, AnyCall, new_year, after_calls, after_all}
use Rattle.year.specs.Claims.{
  SummedOverRows,
  SumsOfAYear,
  NeverRefusedOnSix,
  Holds,
  OpeningReadsBack,
  ReadsBack,
  SettlingReadsBack,
  OpeningAnswers,
  OpeningRefusals,
  SettlingAnswers,
  SettlingRefusals,
}
use Rattle.ledger.proofs.Sound.{opening_none, block_accepted, ledger_room}
use Rattle.settling.proofs.Accepted.{settling_none, Accepted, accepted}
use Rattle.year.proofs.LedgerBack.{Fits, ledger_words_fit, length_ledger}
use Rattle.year.proofs.Fits.{new_sums, ledger_fits, result_words_fit, interval_made}
use Rattle.settling.proofs.SettlingAnswers.{settled_answer, settling_accepts, settling_refuses}
use Rattle.ledger.proofs.OpeningAnswers.{opening_accepts, opening_refuses}
use Rattle.year.proofs.Calls.{after_calls_lem, after_all_lem}
use Rattle.year.proofs.ResultWords.{length_rows_words}
use Rattle.year.proofs.Step.{Kept, good_block, accept_kept, opened_fits, opened_room, opened_kept}

-- a year on a block of bytes, after any calls of settling
pub kept : (block ledger : List ℕ) → Bytes block → (opening block ledger).refusal ≡ 0 → (calls : List Call)
    → Kept block (after_calls (new_year (opening block ledger).ledger) calls)
kept block ledger bytes e calls =
    let s = block_accepted block ledger (opening_none block ledger e) in
    let a = opening_accepts block ledger (opening_none block ledger e) in
    let start = subst (λ a. Kept block (new_year a.ledger)) (sym a) (opened_kept block ledger s bytes) in
    after_calls_lem (Kept block) (λ y c k. accept_kept block bytes (good_block block ledger s) y k c)
    (new_year (opening block ledger).ledger) calls start

-- and after any of both sorts
kept_all : (block ledger : List ℕ) → Bytes block → (opening block ledger).refusal ≡ 0 → (calls : List AnyCall)
    → Kept block (after_all (new_year (opening block ledger).ledger) calls)
unfolding after_calls
kept_all block ledger bytes e calls =
    let s = block_accepted block ledger (opening_none block ledger e) in
    after_all_lem (Kept block) (λ y c k. accept_kept block bytes (good_block block ledger s) y k c)
    (new_year (opening block ledger).ledger) calls (kept block ledger bytes e [])

-- the sums hold after any list of calls on a freshly opened ledger
pub sums_of_a_year : SumsOfAYear
unfolding SumsOfAYear
sums_of_a_year block ledger bytes e calls = (kept_all block ledger bytes e calls).sums

-- ground 6 does not refuse the ledger that any list of calls leaves of a freshly opened one
pub never_refused_on_six : NeverRefusedOnSix
unfolding NeverRefusedOnSix
never_refused_on_six block ledger bytes e calls = (kept_all block ledger bytes e calls).holds

-- words that fit are held by a buffer that they are written to
written_held : (ws b : List ℕ) → Fits ws → Holds ws b (written ws b)
unfolding words_in word64 number_at written
written_held ws b fit =
    record { read_back = words_back 8 ws (drop (8 * length ws) b) fit; beyond = beyond_written ws b }

-- an accepted opening leaves a ledger whose words are read back, with the bytes beyond as they were
pub opening_reads_back : OpeningReadsBack
unfolding OpeningReadsBack
opening_reads_back block ledger bytes e =
    let s = block_accepted block ledger (opening_none block ledger e) in
    let ledger_read = written_held (ledger_words (opened_ledger block)) ledger
    (ledger_words_fit (opened_ledger block) (opened_fits block ledger s bytes)) in
    subst (λ a. Holds (ledger_words (opened_ledger block)) ledger a.ledger)
    (sym (opening_accepts block ledger (opening_none block ledger e))) ledger_read

-- an account read from bytes has an id that fits its word
account_id_fits : (ledger : List ℕ) → Bytes ledger → (a : Account) → Memᴰ a (ledger_of ledger).accounts
    → a.id < 2 ^ 64
unfolding ledger_of account_count account_at word64
account_id_fits ledger bytes =
    entries_all account_bytes account_at (λ a. a.id < 2 ^ 64) (λ b bytes. number_at_lt 8 b 0 bytes) (account_count ledger)
    (drop ledger_header_bytes ledger)
    (drop_bytes ledger_header_bytes ledger bytes)

-- ledger and result of an accepted call on a ledger of bytes are read back, and charges, credits and bonus are the sums
-- over the rows given
settled_back : (ledger file result : List ℕ) → Bytes ledger → Accepted ledger file result
    → ReadsBack ledger file result (settled_answer ledger file result)
settled_back ledger file result bytes s =
    let l = settled_ledger ledger file in
    record {
      ledger_holds = written_held (ledger_words l) ledger (ledger_words_fit l (ledger_fits ledger file s (account_id_fits ledger bytes)));
      result_holds = written_held (result_words (assessed_file ledger file)) result (result_words_fit ledger file s);
      sums = subst SummedOverRows (sym (interval_made ledger file s)) (new_sums ledger file);
    }

-- so it is for every accepted call of settling on a ledger of bytes
pub settling_reads_back : SettlingReadsBack
unfolding SettlingReadsBack
settling_reads_back ledger file result bytes e =
    let none = settling_none ledger file result e in
    subst (ReadsBack ledger file result) (sym (settling_accepts ledger file result none))
    (settled_back ledger file result bytes (accepted ledger file result e))

-- no ground that opening answers is above 5, but for 23
opening_ground : (block ledger : List ℕ)
    → let g = answered (opening_grounds block ledger) in (g ≤ 5) ⊎ (g ≡ 23)
unfolding opening_grounds any
opening_ground block ledger =
    let g = answered (opening_grounds block ledger) in
    let other : ℕ → Bool = λ n. not (leb n 5 || eqb n 23) in
    ⊎_elim (λ e. inl (omega (arith, e)))
    (λ e. ⊎_elim (λ t. inl (leb-true g 5 t)) (λ t. inr (eqb-true g 23 t)) (either (leb g 5) (eqb g 23) (not-false _ e)))
    (answered_passed other (opening_grounds block ledger) refl)

-- opening answers at most 5, or 23, a refusal changes no byte of the ledger, and its length stays
pub opening_refusals : OpeningRefusals
unfolding OpeningRefusals
opening_refusals block ledger = by (eqb g 0) refl
  where
    g : ℕ
    g = answered (opening_grounds block ledger)

    by : (t : Bool) → eqb g 0 ≡ t → OpeningAnswers ledger (opening block ledger)
    by true e =
        let a = opening_accepts block ledger (eqb-true g 0 e) in
        let s = block_accepted block ledger (eqb-true g 0 e) in
        subst (OpeningAnswers ledger) (sym a)
        (record { refusal = inl (omega arith); refused = λ h. absurd (omega arith); length_kept = length_ledger (opened_ledger block) ledger (opened_room block ledger s) })
    by false e =
        subst (OpeningAnswers ledger) (sym (opening_refuses block ledger e))
        (record { refusal = opening_ground block ledger; refused = λ h. refl; length_kept = refl })

-- what the grounds of settling answer is 0, or 6 to 16, or 18
settling_ground : (ledger file result : List ℕ)
    → let g = answered (settling_grounds ledger file result) in (g ≡ 0) ⊎ ((6 ≤ g) × ((g ≤ 16) ⊎ (g ≡ 18)))
unfolding settling_grounds grounds_before_pool later_grounds row_grounds any outside
settling_ground ledger file result =
    let g = answered (settling_grounds ledger file result) in
    let other : ℕ → Bool = λ n. outside 6 16 n && not (eqb n 18) in
    ⊎_elim inl (λ e. inr (by g e)) (answered_passed other (settling_grounds ledger file result) refl)
  where
    by : (n : ℕ) → (outside 6 16 n && not (eqb n 18)) ≡ false → (6 ≤ n) × ((n ≤ 16) ⊎ (n ≡ 18))
    by n e = among (outside 6 16 n) refl (eqb n 18) refl e
      where
        among : (out : Bool) → outside 6 16 n ≡ out → (last : Bool) → eqb n 18 ≡ last → (out && not last) ≡ false
            → (6 ≤ n) × ((n ≤ 16) ⊎ (n ≡ 18))
        among out p true q z = let is = eqb-true n 18 q in (omega (arith, is), inr is)
        among true p false q z = absurd (true≢false z)
        among false p false q z = let inside = not_outside 6 16 n p in (inside.0, inl inside.1)

-- writing what an accepted call gives keeps both lengths
module _ (ledger file result : List ℕ) (s : Accepted ledger file result) where
  -- the interval that the file makes of the ledger
  abbrev w : Assessed
  w = assessed_file ledger file

  -- writing the result's words keeps the length of the result buffer
  result_length : length (written (result_words w) result) ≡ length result
  unfolding result_words summary_words result_bytes
  result_length =
      length_written (result_words w) result
      (omega (arith, length_rows_words (credit w) w.rows, rows_count s.passed, s.room))

  -- writing the words of the ledger after the file keeps the length of the ledger buffer
  ledger_length : length (written (ledger_words (settled_ledger ledger file)) ledger) ≡ length ledger
  unfolding settled_ledger
  ledger_length =
      let n = length-map (ledger_of ledger).accounts (posted_all w w.rows) in
      length_ledger (settled_ledger ledger file) ledger (rw n (ledger_room ledger s.ledger_holds))

-- settling answers 0, 6 to 16 or 18, a refusal changes no byte of ledger or result, and the lengths stay
pub settling_refusals : SettlingRefusals
unfolding SettlingRefusals
settling_refusals ledger file result = by (eqb g 0) refl
  where
    g : ℕ
    g = answered (settling_grounds ledger file result)

    by : (t : Bool) → eqb g 0 ≡ t → SettlingAnswers ledger result (settling ledger file result)
    by true e =
        let a = settling_accepts ledger file result (eqb-true g 0 e) in
        let s = accepted ledger file result (ap (λ a. a.refusal) a) in
        subst (SettlingAnswers ledger result) (sym a)
        (record { refusal = inl refl; refused = λ h. absurd (omega arith); lengths_kept = (ledger_length ledger file result s, result_length ledger file result s) })
    by false e =
        subst (SettlingAnswers ledger result) (sym (settling_refuses ledger file result e))
        (record { refusal = settling_ground ledger file result; refused = λ h. (refl, refl); lengths_kept = (refl, refl) })
