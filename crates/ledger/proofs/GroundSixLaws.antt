-- Ground 6 in the order in which the code tests it: the layout, what stands before the accounts,
-- and one pass over the accounts.
use Prim.Native.Nat.{ℕ, ◌+◌, ◌*◌, ◌≤◌, ◌<◌}
use mathlib.Core.Path.{◌≡◌, refl, sym, ap, ◌∙◌}
use mathlib.Core.List.{List, ◌∷◌, map}
use mathlib.Core.Bool.{Bool, true, false, not, ◌||◌, false≢true, or-true, or_assoc}
use native.Mathlib.Omega.{arith}
use lib.ListN.{length, drop}
use lib.Dec.{ltb, eqb}
use borrow.Author.Tests.{lt-ltb, le-ltb, eq-eqb, ne_eqb}
use Rattle.words.specs.Lists.{sum, any, rises_above}
use Rattle.words.specs.Grounds.{outside}
use Rattle.words.proofs.Tests.{facts, lies_inside, lies_below, lies_above}
use Rattle.reading.specs.Block.{Terms, most_ids, terms_outside, year_outside, ids_out_of_order}
use Rattle.reading.specs.Interval.{intervals_per_day}
use Rattle.reading.specs.Values.{terms_in}
use Rattle.reading.proofs.Bounds.{terms_in_lem}
use Rattle.reading.proofs.Order.{order_is}
use Rattle.assessment.specs.Assessment.{most_cents, Account}
use Rattle.assessment.proofs.Limits.{most_limit, limit_le}
use Rattle.ledger.specs.Ledger.{
  ledger_header_bytes,
  most_credited,
  standing_of,
  ledger_bytes,
  account_at,
  account_count,
  ledger_of,
  ids_in,
  not_laid_out,
  ledger_terms_outside,
  account_outside,
  does_not_close,
  not_a_ledger,
}
use Rattle.ledger.specs.Values.{standing_in, LedgerRead}
use Rattle.ledger.specs.declared.layout.Standing.{Standing as StandingValue}
use Rattle.ledger.proofs.Accounts.{accounts_turn, accounts_end}
use Rattle.ledger.proofs.LayoutLaws.{unlaid}
use Rattle.ledger.proofs.Sound.{account_in_lem, said, ledger_read}

-- one alternative that holds makes them hold
pub or_first : (s t : Bool) → s ≡ true → (s || t) ≡ true
or_first true t e = refl
or_first false t e = absurd (false≢true e)

-- the same for the second alternative
pub or_second : (s t : Bool) → t ≡ true → (s || t) ≡ true
or_second true t e = refl
or_second false t e = e

-- by these, search finds a chain of alternatives to hold from the one that does
pub ruleset holds = (or_first, or_second, lt-ltb, lies_below, lies_above)

-- what the tests of a ledger's terms say
module _ (t : Terms) where
  -- terms against ground 2 are refused
  pub terms_refuse : terms_outside t ≡ true → ledger_terms_outside t ≡ true
  unfolding ledger_terms_outside
  terms_refuse e = rw e

  -- others that name no year are not
  pub year_unnamed : terms_outside t ≡ false → t.year ≡ 0 → ledger_terms_outside t ≡ false
  unfolding ledger_terms_outside
  year_unnamed e none = rw (e, eq-eqb t.year 0 none)

  -- and where one is named, it decides
  pub year_decides : terms_outside t ≡ false → (t.year ≡ 0 → ⊥) → ledger_terms_outside t ≡ year_outside t
  unfolding ledger_terms_outside
  year_decides e some = rw (e, ne_eqb t.year 0 some)

-- whether terms, number of accounts, earliest interval or carried cents are out of range, or so many bytes too few
abbrev pub standing_outside : Terms → ℕ → ℕ → ℕ → ℕ → Bool
standing_outside t n bytes earliest carried =
    ledger_terms_outside t || outside 1 most_ids n || ltb bytes (ledger_bytes n)
    || ltb (intervals_per_day * t.days) earliest || ltb most_cents carried

module _ (t : Terms) (n bytes earliest carried : ℕ) where
  -- where no other test holds, the carried cents decide
  pub carried_decides : ledger_terms_outside t ≡ false → 1 ≤ n → n ≤ most_ids → ledger_bytes n ≤ bytes
      → earliest ≤ intervals_per_day * t.days
      → standing_outside t n bytes earliest carried ≡ ltb most_cents carried
  carried_decides terms some few room early =
      rw (
        terms,
        lies_inside 1 most_ids n some few,
        le-ltb bytes (ledger_bytes n) room,
        le-ltb (intervals_per_day * t.days) earliest early,
      )

-- whether ground 6 refuses accounts whose ids must rise from above a number on,
-- with so much charged and credited before them
abbrev pub refused_from : Terms → ℕ → ℕ → ℕ → List Account → Bool
refused_from t last charged credited left =
    not (rises_above last (map (λ a. a.id) left)) || any (account_outside t) left
    || not (eqb (charged + sum (λ a. a.charged) left) (credited + sum (λ a. a.credited) left))

-- whether ground 6 refuses the accounts of a ledger
abbrev pub accounts_refused : List ℕ → Bool
accounts_refused b =
    let l = ledger_of b in ids_out_of_order (ids_in l) || any (account_outside l.terms) l.accounts || does_not_close l

-- the pass over the accounts at account j: the last id, and what is charged and credited so far, with what is carried
pub record Passing (b : List ℕ) (s : StandingValue) (last charged credited j : ℕ) : Type 0 where
  pub left : accounts_refused b
      ≡ refused_from (terms_in s.terms) last charged credited (drop j (ledger_of b).accounts)
  pub charged_low : charged ≤ most_limit * j
  pub credited_low : credited ≤ most_cents + most_credited * j

-- before any account is read, all are left, and what is carried counts as credited
pub passing_start : (b : List ℕ) (s : StandingValue) → standing_in s ≡ standing_of b → s.carried.0 ≤ most_cents
    → Passing b s 0 0 s.carried.0 0
unfolding ids_in does_not_close
passing_start b s says few =
    let l = ledger_of b in
    let v = said b s says in
    let charged : sum (λ a. a.charged) l.accounts ≡ 0 + sum (λ a. a.charged) l.accounts = omega arith in
    let given = sum (λ a. a.credited) l.accounts in
    let credited : given + l.carried ≡ s.carried.0 + given = omega (arith, v) in
    record {
      left = λ i. order_is (ids_in l) i || any (account_outside (sym v.terms i)) l.accounts
          || not (eqb (charged i) (credited i));
      charged_low = omega arith;
      credited_low = omega arith;
    }

-- the account at j, whose id, commitment and sums are a
module _ {b : List ℕ} {s : StandingValue} {last charged credited j : ℕ} (p : Passing b s last charged credited j)
    (more : j < account_count b) (a : Account)
    (is : a ≡ account_at (drop (ledger_bytes j) b)) where
  -- what is asked of the accounts left is asked of it and of the rest
  next : accounts_refused b
      ≡ refused_from (terms_in s.terms) last charged credited (a ∷ drop (j + 1) (ledger_of b).accounts)
  next =
      let turn =
      accounts_turn b j more
      ∙ ap (λ a. a ∷ drop (j + 1) (ledger_of b).accounts) (sym is) in
      p.left ∙ ap (refused_from (terms_in s.terms) last charged credited) turn

  -- an id that does not rise refuses
  pub id_low : a.id ≤ last → accounts_refused b ≡ true
  unfolding rises_above
  id_low h = next ∙ rw (le-ltb last a.id h)

  -- whether the account is outside its bounds, as the code asks
  module _ {outside : Bool} (asks : outside ≡ account_outside (terms_in s.terms) a) where
    -- one that is refuses
    pub account_refused : outside ≡ true → accounts_refused b ≡ true
    unfolding any
    account_refused refuses = next ∙ rw (sym asks ∙ refuses, or-true)

  module _ (terms : terms_outside (terms_in s.terms) ≡ false)
      {outside : Bool} (asks : outside ≡ account_outside (terms_in s.terms) a) (not_outside : outside ≡ false) where
    e : account_outside (terms_in s.terms) a ≡ false
    e = sym asks ∙ not_outside

    -- else its charged sum is no more than the largest limit
    pub charged_most : a.charged ≤ most_limit
    charged_most =
        let t = terms_in s.terms in
        let within = account_in_lem t a e in
        omega (arith, limit_le t a.largest (terms_in_lem t terms) within.largest, within.charged)

    -- and its credited sum no more than its most
    pub credited_most : a.credited ≤ most_credited
    credited_most = (account_in_lem (terms_in s.terms) a e).credited

    -- and with both added the rest decide
    pub passing_turn : last < a.id → (x y : ℕ) → x ≡ charged + a.charged → y ≡ credited + a.credited
        → Passing b s a.id x y (j + 1)
    unfolding any rises_above sum
    passing_turn up x y paid given =
        let rest = drop (j + 1) (ledger_of b).accounts in
        let pays : charged + (a.charged + sum (λ a. a.charged) rest) ≡ x + sum (λ a. a.charged) rest =
        omega arith in
        let gives : credited + (a.credited + sum (λ a. a.credited) rest) ≡ y + sum (λ a. a.credited) rest =
        omega arith in
        record {
          left = next ∙ rw (lt-ltb last a.id up, e, pays, gives);
          charged_low = omega (arith, p.charged_low, charged_most);
          credited_low = omega (arith, p.credited_low, credited_most);
        }

-- where no account is left, the two sums decide
pub passing_end : {b : List ℕ} {s : StandingValue} {last charged credited j : ℕ} → Passing b s last charged credited j
    → account_count b ≤ j → accounts_refused b ≡ not (eqb charged credited)
unfolding any rises_above sum
passing_end {b} {s} {last} {charged} {credited} {j} p none =
    let paid : charged + 0 ≡ charged = omega arith in
    let given : credited + 0 ≡ credited = omega arith in
    p.left
    ∙ ap (refused_from (terms_in s.terms) last charged credited) (accounts_end b j none)
    ∙ rw (paid, given)

-- tests of one chain, in two orders
regrouped : (laid terms count ids room early carried accounts sums : Bool)
    → (laid || terms || count || ids || room || early || carried || accounts || sums)
    ≡ (laid || (terms || count || room || early || carried) || (ids || accounts || sums))
regrouped true terms count ids room early carried accounts sums = refl
regrouped false true count ids room early carried accounts sums = refl
regrouped false false true ids room early carried accounts sums = refl
regrouped false false false true room early carried accounts sums = sym (or-true (room || early || carried))
regrouped false false false false room early carried accounts sums = or_assoc (room || early || carried) accounts sums

-- whether what stands before the accounts of a buffer is out of range
abbrev pub standing_refused : List ℕ → Bool
standing_refused b =
    let l = ledger_of b in standing_outside l.terms (account_count b) (length b) l.earliest l.carried

-- ground 6: the layout, what stands before the accounts, the accounts
pub ground_6_is : (b : List ℕ) → not_a_ledger b ≡ (unlaid b || standing_refused b || accounts_refused b)
unfolding not_a_ledger
ground_6_is b =
    let l = ledger_of b in
    regrouped (unlaid b) (ledger_terms_outside l.terms) (outside 1 most_ids (account_count b)) (ids_out_of_order (ids_in l))
    (ltb (length b) (ledger_bytes (account_count b)))
    (ltb (intervals_per_day * l.terms.days) l.earliest) (ltb most_cents l.carried)
    (any (account_outside l.terms) l.accounts) (does_not_close l)

-- a value of the ledger is out of range just where what it says is
pub standing_refused_lem : (b : List ℕ) (s : StandingValue) → standing_in s ≡ standing_of b
    → standing_outside (terms_in s.terms) s.accounts (length b) s.earliest s.carried.0 ≡ standing_refused b
standing_refused_lem b s says =
    let v = said b s says in
    λ i. standing_outside (v.terms i) (v.count i) (length b) (v.earliest i) (v.carried i)

-- what the code's tests of a buffer say of it, one after the other: of its layout,
module _ (b : List ℕ) {bad_layout : Bool} (layout : bad_layout ≡ unlaid b) where
  -- ground 6 refuses a buffer that is not laid out
  pub layout_refuses : bad_layout ≡ true → not_a_ledger b ≡ true
  layout_refuses e = ground_6_is b ∙ rw (sym layout ∙ e)

  module _ (laid : bad_layout ≡ false) where
    -- one that is laid out has the header's bytes
    pub laid_long : ledger_header_bytes ≤ length b
    laid_long = let known = sym layout ∙ laid in search facts

    -- of what a value says that stands before its accounts,
    module _ (s : StandingValue) (says : standing_in s ≡ standing_of b) {out_of_range : Bool} (range : out_of_range
        ≡ standing_outside (terms_in s.terms) s.accounts (length b) s.earliest s.carried.0) where
      -- ground 6 refuses it where that is out of range
      pub standing_refuses : out_of_range ≡ true → not_a_ledger b ≡ true
      standing_refuses e = ground_6_is b ∙ rw (sym (standing_refused_lem b s says) ∙ sym range ∙ e, or-true)

      -- and of its accounts
      module _ (inside : out_of_range ≡ false) {refused : Bool} (accounts : refused ≡ accounts_refused b) where
        -- where it refuses none of the others, it refuses them just where these are
        pub accounts_decide : not_a_ledger b ≡ refused
        accounts_decide =
            ground_6_is b
            ∙ rw (sym layout ∙ laid, sym (standing_refused_lem b s says) ∙ sym range ∙ inside) (sym accounts)

        pub accounts_refuse : refused ≡ true → not_a_ledger b ≡ true
        accounts_refuse e = accounts_decide ∙ e

        pub accounts_pass : refused ≡ false → not_a_ledger b ≡ false
        accounts_pass e = accounts_decide ∙ e

        -- else the value is one read from a ledger
        pub passed_read : refused ≡ false → LedgerRead b s
        passed_read e = ledger_read b s (accounts_pass e) says

-- what is known of what stands before the accounts where the test of its range is passed
module _ (t : Terms) (n bytes earliest carried : ℕ) {out_of_range : Bool}
    (range : out_of_range ≡ standing_outside t n bytes earliest carried) (inside : out_of_range ≡ false) where
  -- the terms are those of ground 2
  pub terms_of_range : terms_outside t ≡ false
  unfolding ledger_terms_outside
  terms_of_range = let known = sym range ∙ inside in search facts depth 9

  -- there are no more than the most accounts
  pub few_of_range : n ≤ most_ids
  unfolding outside
  few_of_range = let known = sym range ∙ inside in search facts depth 9

  -- there is room for them
  pub room_of_range : ledger_bytes n ≤ bytes
  room_of_range = let known = sym range ∙ inside in search facts depth 9

  -- and no more than the most cents are carried
  pub carried_of_range : carried ≤ most_cents
  carried_of_range = let known = sym range ∙ inside in search facts depth 9

-- by these, search finds what the tests made so far say of ground 6
pub ruleset tests = (
  layout_refuses,
  laid_long,
  standing_refuses,
  accounts_refuse,
  accounts_pass,
  passed_read,
  terms_of_range,
  few_of_range,
  room_of_range,
  carried_of_range,
)

-- no other test holds, so the sums decide
pub sums_decide : (b : List ℕ) → ledger_header_bytes ≤ length b → not_laid_out b ≡ false
    → ledger_terms_outside (ledger_of b).terms ≡ false
    → 1 ≤ account_count b → account_count b ≤ most_ids → ids_out_of_order (ids_in (ledger_of b)) ≡ false
    → ledger_bytes (account_count b) ≤ length b
    → (ledger_of b).earliest ≤ intervals_per_day * (ledger_of b).terms.days → (ledger_of b).carried ≤ most_cents
    → any (account_outside (ledger_of b).terms) (ledger_of b).accounts ≡ false
    → not_a_ledger b ≡ does_not_close (ledger_of b)
unfolding not_a_ledger
sums_decide b header layout terms some few ids room earliest carried accounts =
    rw (
      le-ltb (length b) ledger_header_bytes header,
      layout,
      terms,
      lies_inside 1 most_ids (account_count b) some few,
      ids,
      le-ltb (length b) (ledger_bytes (account_count b)) room,
      le-ltb (intervals_per_day * (ledger_of b).terms.days) (ledger_of b).earliest earliest,
      le-ltb most_cents (ledger_of b).carried carried,
      accounts,
    )
