-- What is left to add up and to write while rows are charged, and what a turn does to it.
use Prim.Native.Nat.{ℕ, ◌+◌, ◌-◌, ◌*◌, ◌≤◌, ◌<◌, ◌^◌}
use mathlib.Core.Path.{◌≡◌, refl, sym, ap, ◌∙◌}
use mathlib.Core.List.{List, [], ◌∷◌}
use mathlib.Core.Bool.{Bool, true, false, cond}
use native.Mathlib.Omega.{arith}
use borrow.Author.Tests.{ltb-false}
use lib.ListN.{length, drop}
use lib.Dec.{ltb}
use Rattle.words.specs.Lists.{sum}
use Rattle.words.specs.Words.{written_at}
use Rattle.words.proofs.Lists.{sum_start, sum_turn, sum_end}
use Rattle.words.proofs.Access.{write_more, write_none, length_written_at}
use Rattle.reading.specs.Interval.{most_kilowatts, header_of, row_words_at, row_with, row_of, rows_of}
use Rattle.reading.specs.Values.{terms_in, row_in}
use Rattle.reading.specs.declared.file.File.{File as FileValue}
use Rattle.reading.specs.declared.header.Header.{Header as HeaderValue}
use Rattle.reading.specs.declared.rows.Row.{Row as RowValue}
use Rattle.reading.specs.declared.sound.SoundRow.{SoundRow as SoundRowValue}
use Rattle.reading.proofs.Facts.{row_count_lem}
use Rattle.assessment.specs.Assessment.{
  Ratio,
  RowFigures,
  ratio_of,
  row_figures,
  account_of,
  raised,
  charge,
  ChargedRow,
  charged_row,
  Assessed,
  charges,
  total_bonus,
}
use Rattle.assessment.specs.Values.{row_said, ratio_in, figures_in, account_in}
use Rattle.assessment.specs.declared.ratio.Ratio.{Ratio as RatioValue}
use Rattle.assessment.specs.declared.row.Figures.{Figures as FiguresValue}
use Rattle.assessment.specs.declared.account.Account.{Account as AccountValue}
use Rattle.assessment.proofs.Limits.{most_charge_lem}
use Rattle.ledger.specs.Ledger.{ledger_bytes, account_at, account_count, ledger_of, ids_in}
use Rattle.ledger.specs.Values.{before}
use Rattle.ledger.specs.Walk.{comparisons}
use Rattle.ledger.specs.declared.layout.Standing.{Standing as StandingValue}
use Rattle.settling.specs.Settling.{result_bytes, rows_words, assessed_file}
use Rattle.settling.specs.Values.{Passed, charged_result}
use Rattle.settling.proofs.BudgetLaws.{Budget, budget_begins, row_enough, row_spends}
use Rattle.settling.proofs.Turns.{
  Walks,
  Found,
  row_at,
  walk_starts,
  walk_finds,
  accounts_are,
  in_file,
  row_within,
  account_within,
}
use Rattle.settling.proofs.SettledLaws.{
  charged_of,
  charged_at,
  charged_left,
  charged_start,
  charged_turn,
  charged_end,
  rows_count,
  terms_are,
  region_is,
  charged_bounded,
  charges_fit,
  bonus_fits,
}

-- the eight words of a row whose credit is not known
abbrev pub words_for : FiguresValue → ℕ → List ℕ
words_for f cents =
    f.expected.0 ∷ f.actual.0 ∷ f.outage.0 ∷ f.economic.0 ∷ f.shortfall.0 ∷ f.bonus.0 ∷ cents ∷ 0 ∷ []

-- the words of charged rows, their credits not known
abbrev row_words : List ChargedRow → List ℕ
row_words = rows_words (λ c. 0)

-- the figures and the charge of a charged row make its words
words_of : (f : FiguresValue) (cents : ℕ) (c : ChargedRow) → figures_in f ≡ c.figures → cents ≡ c.charge
    → words_for f cents ≡ row_words (c ∷ [])
unfolding figures_in rows_words
words_of f cents c same charge =
    λ k.
    (same k).expected
    ∷ (same k).actual
    ∷ (same k).outage
    ∷ (same k).economic
    ∷ (same k).shortfall
    ∷ (same k).bonus
    ∷ charge k
    ∷ 0
    ∷ []

-- a result with the words of rows from row i on, left to write; one without room for so many rows stays as it is
unfoldable pub left_to_write : ℕ → ℕ → List ChargedRow → List ℕ → List ℕ
left_to_write rows i cs result =
    cond (ltb (length result) (result_bytes rows)) result (written_at (result_bytes i) (row_words cs) result)

-- where no row is left, nothing is left to write
left_end : (rows i : ℕ) (result : List ℕ) → left_to_write rows i [] result ≡ result
unfolding left_to_write rows_words
left_end rows i result = by (ltb (length result) (result_bytes rows))
  where
    by : (t : Bool) → cond t result (written_at (result_bytes i) [] result) ≡ result
    by true = refl
    by false = write_none (result_bytes i) result

-- once the words of row i are written, those from row i + 1 on are left
left_turn : (rows i : ℕ) (c : ChargedRow) (cs : List ChargedRow) (ws result after : List ℕ) → i < rows
    → ws ≡ row_words (c ∷ [])
    → after ≡ cond (ltb (length result) (result_bytes rows)) result (written_at (result_bytes i) ws result)
    → (length after ≡ length result) × (left_to_write rows (i + 1) cs after ≡ left_to_write rows i (c ∷ cs) result)
unfolding left_to_write rows_words result_bytes
left_turn rows i c cs ws result after on words put = by (ltb (length result) (result_bytes rows)) refl put
  where
    by : (t : Bool) → ltb (length result) (result_bytes rows) ≡ t
        → after ≡ cond t result (written_at (result_bytes i) ws result)
        → (length after ≡ length result)
        × (left_to_write rows (i + 1) cs after ≡ cond t result (written_at (result_bytes i) (row_words (c ∷ cs)) result))
    by true e same = (ap length same, rw (ap (λ r. ltb (length r) (result_bytes rows)) same ∙ e) same)
    by false e put =
        let at = result_bytes i in
        let own = row_words (c ∷ []) in
        let room : at + 8 * 8 ≤ length result = omega (arith, ltb-false (length result) (result_bytes rows) e) in
        let next : result_bytes (i + 1) ≡ at + 8 * 8 = omega arith in
        let here : after ≡ written_at at own result = put ∙ ap (λ ws. written_at at ws result) words in
        let long : length after ≡ length result = ap length here ∙ length_written_at at own result room in
        (long, rw (long, e, next, here) (write_more at own (row_words cs) result room))

-- rows are charged, with row i next: what is left to add and to write makes the sums and the result of all rows
pub record Charging (ledger file result₀ result : List ℕ) (cents kw i : ℕ) : Type 0 where
  pub charges : cents + sum (λ c. c.charge) (charged_left ledger file i) ≡ charges (assessed_file ledger file)
  pub bonus : kw + sum (λ c. c.figures.bonus) (charged_left ledger file i) ≡ total_bonus (assessed_file ledger file)
  pub long : length result ≡ length result₀
  pub left : left_to_write (length (assessed_file ledger file).rows) i (charged_left ledger file i) result
      ≡ charged_result (assessed_file ledger file) result₀

-- before the first row, all of them are left
pub charging_starts : (ledger file result : List ℕ) → Charging ledger file result result 0 0 0
unfolding charges total_bonus charged_result left_to_write result_bytes
charging_starts ledger file result =
    let start = charged_start ledger file in
    record {
      charges = sum_start (λ c. c.charge) start;
      bonus = sum_start (λ c. c.figures.bonus) start;
      long = refl;
      left = ap (λ cs. left_to_write (length (assessed_file ledger file).rows) 0 cs result) (sym start);
    }

-- the figures of a row that a value says are those of its file
pub figures_of_file : (row : SoundRowValue) (v : FileValue) (q : Ratio) {f : RowFigures} → row.file ≡ v
    → f ≡ row_figures row.file.header.region_wide q (row_said row)
    → f ≡ row_figures v.header.region_wide q (row_of v.bytes.now (row_in row.words))
figures_of_file row v q same figured =
    figured ∙ ap (λ (v : FileValue). row_figures v.header.region_wide q (row_of v.bytes.now (row_in row.words))) same

-- a pass that charges rows, with row i and account j next, and what is left of its budget
pub record Pass (ledger file result₀ result : List ℕ) (cents kw i j comparisons_left : ℕ) : Type 0 where
  pub within : j ≤ account_count ledger
  pub walks : Walks ledger file i j
  pub charging : Charging ledger file result₀ result cents kw i
  pub budget : Budget ledger file i j comparisons_left

-- a file and a ledger that grounds 6 to 14 do not refuse
module _ {ledger file : List ℕ} {s : StandingValue} {h : HeaderValue} (p : Passed ledger s file h) where
  -- the interval that the file makes of the ledger
  abbrev v : Assessed
  v = assessed_file ledger file

  -- what is known of row i in its turn: its figures f, and its account a, raised
  pub record Turn (i : ℕ) (f : FiguresValue) (a : AccountValue) : Type 0 where
    pub taken : i < (header_of file).row_count
    pub figures : figures_in f ≡ (charged_at ledger file i).figures
    pub shortfall : f.shortfall.0 ≤ most_kilowatts
    pub account : account_in a
        ≡ raised (row_at file i).committed (account_of (row_at file i).id (ledger_of ledger).accounts)
    pub largest : a.largest.0 ≤ most_kilowatts

  -- a row in its turn, charged
  module _ {i : ℕ} {f : FiguresValue} {a : AccountValue} (t : Turn i f a) {cents : ℕ}
      (charged : cents ≡ charge (terms_in s.terms) (account_in a) f.shortfall.0) where
    -- its charge is that of the interval
    charge_is : cents ≡ (charged_at ledger file i).charge
    unfolding figures_in charged_of charged_row
    charge_is = charged ∙ (λ x. charge (terms_are p x) (t.account x) (t.figures x).shortfall)

    module _ {result₀ result : List ℕ} {so kw : ℕ} (c : Charging ledger file result₀ result so kw i) where
      -- the charge is left to add to the sum so far
      charges_next : so + cents + sum (λ c. c.charge) (charged_left ledger file (i + 1)) ≡ charges v
      charges_next =
          sum_turn (λ c. c.charge) so (charges v) cents (charged_turn ledger file i t.taken) c.charges charge_is

      -- so the sum fits with it
      pub charges_more : so + cents < 2 ^ 64
      charges_more = omega (arith, charges_next, charges_fit p, most_charge_lem)

  -- the pass begins with all rows, before the first account
  pub pass_starts : {result : List ℕ} {j budget : ℕ} → j ≡ 0 → budget ≡ h.rows + s.accounts
      → Pass ledger file result result 0 0 0 j budget
  pass_starts {result} first budget = record {
    within = omega arith;
    walks = rw first (walk_starts p);
    charging = charging_starts ledger file result;
    budget = budget_begins p.tabled.read (accounts_are p) first budget;
  }

  module _ {result₀ result : List ℕ} {cents kw i j budget : ℕ} (pass : Pass ledger file result₀ result cents kw i j budget) where
    -- no row is left: sums and result are those of all rows
    pub pass_ends : h.rows ≤ i → (cents ≡ charges v) × ((kw ≡ total_bonus v) × (result ≡ charged_result v result₀))
    pass_ends end =
        let rows = length v.rows in
        let none = charged_end ledger file i (omega (arith, row_count_lem p.tabled.read)) in
        let c = pass.charging in (
          sum_end (λ c. c.charge) cents (charges v) none c.charges,
          (
            sum_end (λ c. c.figures.bonus) kw (total_bonus v) none c.bonus,
            sym (left_end rows i result) ∙ ap (λ cs. left_to_write rows i cs result) (sym none) ∙ c.left,
          ),
        )

    -- row i, charged
    abbrev this : ChargedRow
    this = charged_at ledger file i

    -- the rows behind it
    abbrev rest : List ChargedRow
    rest = charged_left ledger file (i + 1)

    -- row i in its turn is read
    module _ (taken : i < h.rows) (row : RowValue) (read : row_in row ≡ row_words_at file i) where
      -- the comparisons that find its account are left of the budget
      pub budget_lasts : comparisons row.id (drop j (ids_in (ledger_of ledger))) ≤ budget
      unfolding row_in
      budget_lasts = row_enough p.tabled.read pass.budget taken read refl

    -- and the walk goes on to account k for it
    module _ (taken : i < h.rows) (row : RowValue) (read : row_in row ≡ row_words_at file i) {k : ℕ}
        (place : k ≡ j + before row.id (drop j (ids_in (ledger_of ledger)))) where
      -- it finds the row's account
      found : Found ledger file i j k
      found = walk_finds p taken row pass.walks read refl place

      -- which is one of the accounts
      pub account_there : {accounts : ℕ} → accounts ≡ account_count ledger → k < accounts
      account_there count = omega (arith, found.within, count)

      -- the row's account a, raised to b
      module _ (a b : AccountValue) (account : account_in a ≡ account_at (drop (ledger_bytes k) ledger))
          (raise : account_in b ≡ raised row.committed (account_in a)) where
        -- its account is that of the row's id, raised
        account_is : account_in b
            ≡ raised (row_at file i).committed (account_of (row_at file i).id (ledger_of ledger).accounts)
        unfolding row_in row_of row_with
        account_is =
            let own = account ∙ found.own in raise ∙ (λ x. raised (read x).committed (own x))

        -- and keeps its bound
        pub largest_few : b.largest.0 ≤ most_kilowatts
        unfolding account_in raised row_of row_with
        largest_few =
            let kw = (account_within p taken found).largest in
            omega
            (arith, ap (λ a. a.largest) account_is, ap (λ a. a.largest) found.own, kw, (row_within p taken).committed)

        -- the row's figures f by the ratio q
        module _ (q : RatioValue) (ratio : ratio_in q ≡ ratio_of (header_of file) (rows_of file)) (f : FiguresValue)
            (figured : figures_in f ≡ row_figures h.region_wide (ratio_in q) (row_of file (row_in row))) where
          -- its figures are those of the interval's row
          figures_are : figures_in f ≡ (charged_at ledger file i).figures
          unfolding charged_of charged_row
          figures_are = figured ∙ (λ x. row_figures (region_is p x) (ratio x) (row_of file (read x)))

          -- and keep their bounds
          pub shortfall_few : f.shortfall.0 ≤ most_kilowatts
          unfolding figures_in
          shortfall_few =
              let bounds = (charged_bounded p (row_at file i) (row_within p taken)).figures in
              omega (arith, ap (λ g. g.shortfall) figures_are, bounds.shortfall)

          -- its bonus is that of the interval's row
          bonus_is : f.bonus.0 ≡ this.figures.bonus
          unfolding figures_in
          bonus_is = ap (λ g. g.bonus) figures_are

          -- the bonus is left to add to the sum so far
          bonus_next : kw + f.bonus.0 + sum (λ c. c.figures.bonus) rest ≡ total_bonus v
          bonus_next =
              let turn = charged_turn ledger file i (in_file p taken) in
              sum_turn (λ c. c.figures.bonus) kw (total_bonus v) f.bonus.0 turn pass.charging.bonus bonus_is

          -- so the sum fits with it
          pub bonus_more : kw + f.bonus.0 < 2 ^ 64
          bonus_more = omega (arith, bonus_next, bonus_fits p)

          -- that is what is known of the row in its turn
          turn : Turn i f b
          turn = record {
            taken = in_file p taken;
            figures = figures_are;
            shortfall = shortfall_few;
            account = account_is;
            largest = largest_few;
          }

          -- what the row is charged
          module _ {cash : ℕ} (charged : cash ≡ charge (terms_in s.terms) (account_in b) f.shortfall.0) where
            -- fits with the sum so far
            pub charge_more : cents + cash < 2 ^ 64
            charge_more = charges_more turn charged pass.charging

            -- once both are added and the row's words are written, the rows from i + 1 on are left, and the accounts
            -- behind the row's
            pub pass_turn : {after : List ℕ} {more longer spent next left : ℕ}
                → after ≡ cond (ltb (length result) (result_bytes h.rows)) result
                (written_at (result_bytes i) (words_for f cash) result)
                → more ≡ cents + cash → longer ≡ kw + f.bonus.0
                → spent ≡ budget - comparisons row.id (drop j (ids_in (ledger_of ledger)))
                → next ≡ k + 1 → left ≡ spent → Pass ledger file result₀ after more longer (i + 1) next left
            unfolding row_in
            pass_turn {after} put cents_more kw_more take on left =
                let n = length v.rows in
                let ws = words_for f cash in
                let low : i < n = omega (arith, taken, rows_count p) in
                let by_rows : ℕ → List ℕ
                = λ n. cond (ltb (length result) (result_bytes n)) result (written_at (result_bytes i) ws result) in
                let written = put ∙ ap by_rows (sym (rows_count p)) in
                let words = words_of f cash this figures_are (charge_is turn charged) in
                let step = left_turn n i this rest ws result after low words written in
                let first = charged_turn ledger file i (in_file p taken) in
                record {
                  within = omega (arith, found.within);
                  walks = rw on found.next;
                  charging = record {
                    charges = rw cents_more (charges_next turn charged pass.charging);
                    bonus = rw kw_more bonus_next;
                    long = step.0 ∙ pass.charging.long;
                    left = step.1 ∙ ap (λ cs. left_to_write n i cs result) (sym first) ∙ pass.charging.left;
                  };
                  budget = row_spends p.tabled.read pass.budget taken read refl place take on left;
                }

-- by these, search finds what a turn of the pass knows
pub ruleset turns =
    (pass_starts, budget_lasts, figures_of_file, account_there, shortfall_few, largest_few, bonus_more, charge_more, pass_turn)
