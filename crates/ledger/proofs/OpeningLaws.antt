-- What the tests that opening makes say of its answer, and what it writes.
use Prim.Native.Nat.{ℕ, ◌+◌, ◌≤◌, ◌<◌}
use mathlib.Core.Path.{◌≡◌, sym, ap, ap₂, ◌∙◌}
use mathlib.Core.List.{List, [], ◌∷◌, map}
use mathlib.Core.Bool.{Bool, true, false}
use native.Mathlib.Omega.{arith}
use lib.ListN.{length, drop, get_or, length-map, drop_of_length-le}
use borrow.Author.Tests.{lt-ltb, le-ltb, ne_eqb}
use Rattle.words.specs.Words.{written, written_at}
use Rattle.words.specs.Grounds.{answered}
use Rattle.words.proofs.Access.{written_behind}
use Rattle.reading.specs.Block.{Terms, block_words, block_of, not_a_block, terms_outside, year_unknown, ids_misplaced, ids_out_of_order}
use Rattle.reading.specs.Values.{terms_in, block_in, BlockRead, Listed}
use Rattle.reading.specs.declared.block.Block.{Block as BlockValue}
use Rattle.reading.proofs.Facts.{block_read, listed, terms_of_block, length_listed}
use Rattle.reading.proofs.Order.{next_at}
use Rattle.assessment.specs.Assessment.{Account, empty_account}
use Rattle.ledger.specs.Ledger.{
  ledger_header_bytes,
  Standing,
  ledger_bytes,
  account_words,
  standing_words,
  ledger_words,
}
use Rattle.ledger.specs.Opening.{ledger_too_short, opening_grounds, opened_ledger, opening}
use Rattle.ledger.proofs.Accounts.{accounts_on, accounts_written}
use Rattle.ledger.proofs.OpeningAnswers.{opening_accepts, opening_refuses}
use Rattle.ledger.proofs.Sound.{block_accepted}

-- the answer to a block b and a ledger buffer l, and what the code's tests say of it, one after the other
module _ (b l : List ℕ) {no_block : Bool} (block : no_block ≡ not_a_block b) where
  -- the first of the grounds of opening that applies
  abbrev answer : ℕ
  answer = answered (opening_grounds b l)

  -- bytes that are not an opening block are answered 1
  pub opening_1 : no_block ≡ true → 1 ≡ answer
  unfolding answered opening_grounds
  opening_1 e = rw (sym block ∙ e)

  -- past ground 1, a value says the block's words
  module _ (is_block : no_block ≡ false) (v : BlockValue) (says : block_in v ≡ block_words b) where
    e₁ : not_a_block b ≡ false
    e₁ = sym block ∙ is_block

    -- it is read from the block
    pub value_read : BlockRead b v
    value_read = block_read e₁ says

    -- its terms are the block's
    own : terms_in v.terms ≡ (block_of b).terms
    own = terms_of_block value_read

    -- and its number of ids is the block's
    count : v.ids ≡ (block_words b).id_count
    unfolding block_in
    count = ap (λ w. w.id_count) says

    module _ {outside : Bool} (terms : outside ≡ terms_outside (terms_in v.terms)) where
      -- a Net CONE or days out of range are answered 2
      pub opening_2 : outside ≡ true → 2 ≡ answer
      unfolding answered opening_grounds
      opening_2 e = rw (e₁, sym (ap terms_outside own) ∙ sym terms ∙ e)

      module _ (inside : outside ≡ false) {unknown : Bool} (year : unknown ≡ year_unknown (block_in v)) where
        e₂ : terms_outside (block_of b).terms ≡ false
        e₂ = sym (ap terms_outside own) ∙ sym terms ∙ inside

        -- past ground 2, a year that no block may name is answered 23
        pub opening_23 : unknown ≡ true → 23 ≡ answer
        unfolding answered opening_grounds
        opening_23 e = rw (e₁, e₂, sym (ap year_unknown says) ∙ sym year ∙ e)

        module _ (known : unknown ≡ false) {misplaced : Bool} (place : misplaced ≡ ids_misplaced b) where
          e₂₃ : year_unknown (block_words b) ≡ false
          e₂₃ = sym (ap year_unknown says) ∙ sym year ∙ known

          -- past ground 23, a wrong number or place of the ids is answered 3
          pub opening_3 : misplaced ≡ true → 3 ≡ answer
          unfolding answered opening_grounds
          opening_3 e = rw (e₁, e₂, e₂₃, sym place ∙ e)

          module _ (placed : misplaced ≡ false) {unordered : Bool}
              (order : unordered ≡ ids_out_of_order (block_of b).ids) where
            e₃ : ids_misplaced b ≡ false
            e₃ = sym place ∙ placed

            -- past ground 3, ids out of order are answered 4
            pub opening_4 : unordered ≡ true → 4 ≡ answer
            unfolding answered opening_grounds
            opening_4 e = rw (e₁, e₂, e₂₃, e₃, sym order ∙ e)

            module _ (ordered : unordered ≡ false) {bytes : ℕ} (room : bytes ≡ ledger_bytes v.ids) where
              e₄ : ids_out_of_order (block_of b).ids ≡ false
              e₄ = sym order ∙ ordered

              -- past ground 4, a ledger buffer too short for the ids is answered 5
              pub opening_5 : length l < bytes → 5 ≡ answer
              unfolding answered opening_grounds ledger_too_short
              opening_5 h = rw (e₁, e₂, e₂₃, e₃, e₄, ← count, ← room, lt-ltb (length l) bytes h)

              -- and one with room for them 0
              pub opening_0 : bytes ≤ length l → 0 ≡ answer
              unfolding answered opening_grounds ledger_too_short
              opening_0 h = rw (e₁, e₂, e₂₃, e₃, e₄, ← count, ← room, le-ltb (length l) bytes h)

    -- where the code's test of their place says so, its ids lie within the block
    module _ {misplaced : Bool} (place : misplaced ≡ ids_misplaced b) (placed : misplaced ≡ false) where
      pub value_listed : Listed b v
      value_listed = listed value_read (sym place ∙ placed)

-- by these, search finds what the tests made so far say of the grounds of opening
pub ruleset tests = (
  opening_1,
  value_read,
  opening_2,
  opening_23,
  opening_3,
  value_listed,
  opening_4,
  opening_5,
  opening_0,
)

-- and the ledger buffer has room for them
pub accepted_room : (b l : List ℕ) (v : BlockValue) → answered (opening_grounds b l) ≡ 0 → block_in v ≡ block_words b
    → ledger_bytes v.ids ≤ length l
unfolding block_in ledger_bytes
accepted_room b l v e says = let count = ap (λ w. w.id_count) says in omega (arith, (block_accepted b l e).room, count)

-- a refused call: its answer, and the ledger as it was
pub opening_refused : (b l : List ℕ) (g : ℕ) → g ≡ answered (opening_grounds b l) → (g ≡ 0 → ⊥)
    → (g ≡ (opening b l).refusal) × (l ≡ (opening b l).ledger)
opening_refused b l g e some =
    let a = opening_refuses b l (ne_eqb (answered (opening_grounds b l)) 0 (λ z. some (e ∙ z))) in
    (e ∙ sym (ap (λ a. a.refusal) a), sym (ap (λ a. a.ledger) a))

-- an accepted one
pub opening_done : (b l x : List ℕ) → answered (opening_grounds b l) ≡ 0 → x ≡ written (ledger_words (opened_ledger b)) l
    → (◌≡◌ {A = ℕ} 0 (opening b l).refusal) × (x ≡ (opening b l).ledger)
opening_done b l x e w =
    let a = opening_accepts b l e in (sym (ap (λ a. a.refusal) a), w ∙ sym (ap (λ a. a.ledger) a))

-- the words of new accounts
abbrev pub new_words : List ℕ → List ℕ
new_words is = account_words (map empty_account is)

-- once one account more is written, those from the next on are left
pub new_turn : (is b x goal : List ℕ) (i id : ℕ) (a : Account) → i < length is → id ≡ get_or is i 0
    → a ≡ empty_account id → ledger_bytes (i + 1) ≤ length b
    → x ≡ written_at (ledger_bytes i) (account_words (a ∷ [])) b
    → written_at (ledger_bytes i) (new_words (drop i is)) b ≡ goal
    → written_at (ledger_bytes (i + 1)) (new_words (drop (i + 1) is)) x ≡ goal
new_turn is b x goal i id a more at new room put left =
    let next =
    ap (map empty_account) (next_at is i more at) ∙ ap (λ a. a ∷ map empty_account (drop (i + 1) is)) (sym new) in
    accounts_on i a (map empty_account (drop (i + 1) is)) b x goal room put
    (ap (λ l. written_at (ledger_bytes i) (account_words l) b) (sym next) ∙ left)

-- where all accounts are written, nothing is left
pub new_done : (is b goal : List ℕ) (i : ℕ) → length is ≤ i
    → written_at (ledger_bytes i) (new_words (drop i is)) b ≡ goal → b ≡ goal
new_done is b goal i end = accounts_written i b goal (ap (map empty_account) (drop_of_length-le is {i = i} end))

-- what stands before the accounts of a new ledger, of a block's value
abbrev pub opened_standing : BlockValue → Standing
opened_standing v = record { terms = terms_in v.terms; earliest = 0; carried = 0; account_count = v.ids }

-- what stands before the accounts, and the accounts, make up the ledger
pub opened_written : (block b x y : List ℕ) (v : BlockValue) → Listed block v → ledger_header_bytes ≤ length b
    → x ≡ written (standing_words (opened_standing v)) b
    → y ≡ written_at ledger_header_bytes (new_words (block_of block).ids) x
    → y ≡ written (ledger_words (opened_ledger block)) b
unfolding standing_words ledger_words opened_ledger
opened_written block b x y v listed room header accounts =
    let new = new_words (block_of block).ids in
    let all : v.ids ≡ length (map empty_account (block_of block).ids) =
    sym (length-map (block_of block).ids empty_account ∙ length_listed listed) in
    let own : terms_in v.terms ≡ (block_of block).terms = terms_of_block listed.read in
    written_behind (standing_words (opened_standing v)) new b x y room header accounts
    ∙ ap₂ (λ (t : Terms) n. written (1 ∷ t.net_cone ∷ t.days ∷ 0 ∷ 0 ∷ n ∷ 8 ∷ t.year ∷ new) b) own all
