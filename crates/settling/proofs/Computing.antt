-- Every definition of this crate's specs, and of those below, opened at once: a proof that computes says `unfolding
-- computing`.
use Prim.Native.Nat.{ℕ}
use Rattle.ledger.proofs.Computing.{computing as ledger_computing}
use Rattle.settling.specs.Settling.{
  result_bytes,
  rows_words,
  summary_words,
  result_words,
  assessed_file,
  other_terms,
  too_early,
  ids_do_not_rise,
  id_unknown,
  row_ids_unknown,
  result_too_short,
  pool_too_large,
  later_grounds,
  grounds_before_pool,
  settling_grounds,
  posted,
  posted_all,
  settled_ledger,
  settling,
}

unfoldable pub computing : ℕ
unfolding ledger_computing result_bytes rows_words summary_words result_words assessed_file other_terms too_early ids_do_not_rise id_unknown row_ids_unknown result_too_short pool_too_large later_grounds grounds_before_pool settling_grounds posted posted_all settled_ledger settling
computing = 0
