-- The words of a ledger as the code reads them, by byte offset, and what its tests of the layout say.
use Prim.Native.Nat.{ℕ, ◌+◌, ◌≤◌, ◌<◌}
use mathlib.Core.Path.{◌≡◌, refl, sym, ap, ◌∙◌}
use mathlib.Core.List.{List}
use mathlib.Core.Bool.{Bool, true, not, ◌||◌}
use native.Mathlib.Nat.{add-zero}
use lib.ListN.{length, drop}
use lib.Dec.{ltb, eqb}
use borrow.Author.Tests.{lt-ltb, le-ltb, eq-eqb, ne_eqb}
use Rattle.words.specs.Words.{number_at, word64}
use Rattle.words.proofs.Access.{number_at_drop}
use Rattle.assessment.specs.Assessment.{Account}
use Rattle.ledger.specs.Ledger.{ledger_header_bytes, ledger_format, accounts_offset, account_at, not_laid_out}

-- an account begins with its id
pub id_word : (b : List ℕ) (at place : ℕ) → place ≡ at → number_at 8 b place ≡ (account_at (drop at b)).id
unfolding account_at word64
id_word b at place here = rw here (sym (number_at_drop 8 at b 0 ∙ ap (number_at 8 b) (add-zero at)))

-- the four words at a byte offset are the account there
pub account_words_lem : (b : List ℕ) (at : ℕ) (a : Account) → a.id ≡ number_at 8 b at → a.largest ≡ number_at 8 b (at + 8)
    → a.charged ≡ number_at 8 b (at + 16) → a.credited ≡ number_at 8 b (at + 24) → a ≡ account_at (drop at b)
unfolding account_at word64
account_words_lem b at a e f g h = λ i. record {
  id = (e ∙ id_word b at at refl) i;
  largest = (f ∙ sym (number_at_drop 8 at b 8)) i;
  charged = (g ∙ sym (number_at_drop 8 at b 16)) i;
  credited = (h ∙ sym (number_at_drop 8 at b 24)) i;
}

-- a buffer too short for what stands before the accounts, or not laid out
abbrev pub unlaid : List ℕ → Bool
unlaid b = ltb (length b) ledger_header_bytes || not_laid_out b

module _ (b : List ℕ) where
  -- a buffer shorter than the header is one
  pub header_short : length b < ledger_header_bytes → unlaid b ≡ true
  header_short h = rw (lt-ltb (length b) ledger_header_bytes h)

  module _ (long : ledger_header_bytes ≤ length b) (format : ℕ) (e₀ : format ≡ number_at 8 b 0) where
    -- so is one whose word 0 is not the ledger's format
    pub format_other : (format ≡ ledger_format → ⊥) → unlaid b ≡ true
    unfolding not_laid_out word64
    format_other h = rw (le-ltb (length b) ledger_header_bytes long, ← e₀, ne_eqb format ledger_format h)

    module _ (is : format ≡ ledger_format) (offset : ℕ) (e₆ : offset ≡ number_at 8 b 48) where
      -- with word 0 as laid out, word 6 decides: it must be the accounts' offset
      pub offset_decides : unlaid b ≡ not (eqb offset accounts_offset)
      unfolding not_laid_out word64
      offset_decides =
          rw (le-ltb (length b) ledger_header_bytes long, ← e₀, ← e₆, eq-eqb format ledger_format is)
