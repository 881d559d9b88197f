-- What a call leaves in the result and in the ledger, written in parts: rows, then their credits and the accounts, then
-- the words before both.
use Prim.Native.Nat.{ℕ, ◌+◌, ◌*◌, ◌≤◌, ◌<◌, ◌^◌}
use mathlib.Core.Path.{◌≡◌, refl, sym, ap, ◌∙◌}
use mathlib.Core.List.{List, [], ◌∷◌, ◌++◌, map}
use native.Mathlib.Omega.{arith}
use borrow.Author.Tests.{le-ltb}
use lib.ListN.{length, length-map}
use Rattle.words.specs.Words.{written, written_at}
use Rattle.words.proofs.Access.{length_written_at}
use Rattle.reading.specs.Block.{leap_year}
use Rattle.reading.specs.Interval.{header_of, rows_of}
use Rattle.reading.specs.Values.{terms_in, header_in}
use Rattle.reading.specs.declared.header.Header.{Header as HeaderValue}
use Rattle.reading.proofs.Bounds.{header_in_hold}
use Rattle.assessment.specs.Assessment.{
  ratio_of,
  printed_ratio,
  Account,
  ChargedRow,
  Assessed,
  assessed,
  charges,
  total_bonus,
  credit,
  credits,
  carried_on,
}
use Rattle.assessment.specs.Values.{ratio_in}
use Rattle.assessment.specs.declared.ratio.Ratio.{Ratio as RatioValue}
use Rattle.ledger.specs.Ledger.{
  ledger_header_bytes,
  Standing,
  ledger_bytes,
  ledger_of,
  account_words,
  standing_words,
  ledger_words,
}
use Rattle.ledger.specs.declared.layout.Standing.{Standing as StandingValue}
use Rattle.ledger.proofs.Sound.{said}
use Rattle.settling.specs.Settling.{
  result_header_bytes,
  result_bytes,
  rows_words,
  summary_words,
  result_words,
  assessed_file,
  posted_all,
  settled_ledger,
}
use Rattle.settling.specs.Values.{Passed, charged_result}
use Rattle.settling.proofs.Kept.{overwritten, write_front}
use Rattle.settling.proofs.SettledLaws.{rows_count, terms_are}

-- eight words a row
length_rows_words : (credited : ChargedRow → ℕ) (cs : List ChargedRow) → length (rows_words credited cs) ≡ 8 * length cs
unfolding rows_words
length_rows_words credited [] = refl
length_rows_words credited (c ∷ cs) = omega (arith, length_rows_words credited cs)

-- a ledger and a file that grounds 6 to 14 do not refuse
module _ {ledger file : List ℕ} {s : StandingValue} {h : HeaderValue} (p : Passed ledger s file h) where
  -- the interval that the file makes of the ledger
  abbrev v : Assessed
  v = assessed_file ledger file

  -- the words of the rows, by what each is credited
  abbrev row_words : (ChargedRow → ℕ) → List ℕ
  row_words credited = rows_words credited v.rows

  -- with the days of a year, the interval after it fits
  pub next_fits : h.days ≤ leap_year → h.interval + 1 < 2 ^ 64
  unfolding header_in
  next_fits few = omega (arith, (header_in_hold (header_in h) p.header_in_hold).interval)

  -- the ledger has room for the words before its accounts
  pub header_room : ledger_header_bytes ≤ length ledger
  unfolding ledger_bytes
  header_room = omega (arith, p.ledger_read.room)

  -- a result with room for the rows
  module _ (result : List ℕ) (room : result_bytes h.rows ≤ length result) where
    -- it has room for their words
    rows_fit : (credited : ChargedRow → ℕ) → result_header_bytes + 8 * length (row_words credited) ≤ length result
    unfolding result_bytes
    rows_fit credited = omega (arith, room, length_rows_words credited v.rows, rows_count p)

    -- so charging writes them
    charged_written : charged_result v result ≡ written_at result_header_bytes (row_words (λ c. 0)) result
    unfolding charged_result
    charged_written = rw (le-ltb (length result) (result_bytes (length v.rows)) (rw (rows_count p) room))

    -- once charged
    module _ {charged : List ℕ} (put : charged ≡ charged_result v result) where
      -- it is as long
      pub charged_long : length charged ≡ length result
      charged_long =
          ap length (put ∙ charged_written)
          ∙ length_written_at result_header_bytes (row_words (λ c. 0)) result (rows_fit (λ c. 0))

      -- and the rows' words, whatever the credits, are written over those of charging
      over : (credited : ChargedRow → ℕ)
          → written_at result_header_bytes (row_words credited) charged
          ≡ written_at result_header_bytes (row_words credited) result
      over credited =
          let ws = row_words credited in
          let many = length_rows_words (λ c. 0) v.rows ∙ sym (length_rows_words credited v.rows) in
          let room = rows_fit (λ c. 0) in
          ap (written_at result_header_bytes ws) (put ∙ charged_written)
          ∙ overwritten result_header_bytes (row_words (λ c. 0)) ws result many (omega arith)

      -- the rows' words stand in it, without credits
      pub charged_stands : charged ≡ written_at result_header_bytes (row_words (λ c. 0)) charged
      charged_stands = put ∙ charged_written ∙ sym (over (λ c. 0))

      -- rows and interval make up the result
      pub result_written : (q : RatioValue) {cents given rest kw : ℕ} {credited whole : List ℕ}
          → ratio_in q ≡ ratio_of (header_of file) (rows_of file)
          → cents ≡ charges v → given ≡ credits v → rest ≡ carried_on v → kw ≡ total_bonus v
          → credited ≡ written_at result_header_bytes (row_words (credit v)) charged
          → (let numerator = q.numerator.0 in
          let denominator = q.denominator.0 in
          let eight = printed_ratio (ratio_in q) ∷ cents ∷ given ∷ rest ∷ kw ∷ numerator ∷ denominator ∷ h.rows ∷ [] in
          whole ≡ written eight credited)
          → whole ≡ written (result_words v) result
      unfolding summary_words result_words ratio_in assessed_file assessed
      result_written q {cents} {given} {rest} {kw} ratio c g r k rows front =
          let both = q.numerator.0 ∷ q.denominator.0 ∷ h.rows ∷ [] in
          let eight : List ℕ = printed_ratio (ratio_in q) ∷ cents ∷ given ∷ rest ∷ kw ∷ both in
          let counts : both ≡ v.ratio.numerator ∷ v.ratio.denominator ∷ length v.rows ∷ []
          = λ x. (ratio x).numerator ∷ (ratio x).denominator ∷ sym (rows_count p) x ∷ [] in
          let words : eight ≡ summary_words v = λ x. printed_ratio (ratio x) ∷ c x ∷ g x ∷ r x ∷ k x ∷ counts x in
          front
          ∙ ap (written eight) (rows ∙ over (credit v))
          ∙ write_front eight (row_words (credit v)) result (omega (arith, rows_fit (credit v)))
          ∙ ap (λ ws. written (ws ++ row_words (credit v)) result) words

  -- the accounts with all rows posted
  abbrev after : List Account
  after = map (posted_all v v.rows) (ledger_of ledger).accounts

  -- what the code writes before them
  abbrev pub standing_after : ℕ → ℕ → Standing
  standing_after next rest = record {
    terms = terms_in s.terms;
    earliest = next;
    carried = rest;
    account_count = s.accounts;
  }

  -- both make up the ledger
  pub ledger_written : {next rest : ℕ} {posted whole : List ℕ} → next ≡ h.interval + 1 → rest ≡ carried_on v
      → posted ≡ written_at ledger_header_bytes (account_words after) ledger
      → whole ≡ written (standing_words (standing_after next rest)) posted
      → whole ≡ written (ledger_words (settled_ledger ledger file)) ledger
  unfolding ledger_words settled_ledger standing_words header_in
  ledger_written {next} {rest} {posted} {whole} n r accounts front =
      let l = ledger_of ledger in
      let number = (said ledger s p.ledger_read.says).number in
      let count : s.accounts ≡ length after = sym (length-map l.accounts (posted_all v v.rows) ∙ number) in
      let interval = n ∙ ap (λ h. h.interval + 1) p.tabled.read.says in
      let words = standing_words (standing_after next rest) in
      let same : ℕ → Standing
      = λ next. record { terms = l.terms; earliest = next; carried = carried_on v; account_count = length after } in
      let standing : standing_after next rest ≡ same ((header_of file).interval + 1)
      = λ x. record { terms = terms_are p x; earliest = interval x; carried = r x; account_count = count x } in
      front
      ∙ ap (written words) accounts
      ∙ write_front words (account_words after) ledger header_room
      ∙ ap (λ st. written (standing_words st ++ account_words after) ledger) standing
