-- Every definition of this crate's specs, and of those below, opened at once:
-- a proof that computes says `unfolding computing`.
use Prim.Native.Nat.{ℕ}
use Rattle.assessment.proofs.Computing.{computing as assessment_computing}
use Rattle.ledger.specs.Ledger.{
  standing_of,
  ledger_bytes,
  account_at,
  account_count,
  ledger_of,
  account_words,
  standing_words,
  ledger_words,
  ids_in,
  not_laid_out,
  ledger_terms_outside,
  account_outside,
  does_not_close,
  not_a_ledger,
}
use Rattle.ledger.specs.Opening.{ledger_too_short, opening_grounds, opened_ledger, opening}

unfoldable pub computing : ℕ
unfolding assessment_computing
    standing_of ledger_bytes account_at account_count ledger_of account_words standing_words ledger_words ids_in
    not_laid_out ledger_terms_outside account_outside does_not_close not_a_ledger ledger_too_short opening_grounds opened_ledger opening
computing = 0
