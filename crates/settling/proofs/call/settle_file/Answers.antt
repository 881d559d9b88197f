-- `settling::call::settle_file`: grounds 6 to 15, then 16, for which charges are added up only where the cents carried
-- leave little room; what refuses leaves both buffers as they were.
use mathlib.Core.Path.{refl, sym, ◌∙◌}
use Rattle.std.proofs.lemmas.Result.{err_from_is_err_and}
use Rattle.words.proofs.Refusals.{ground_some}
use Rattle.reading.proofs.Facts.{file_has_header, header_read}
use Rattle.settling.proofs.SettlingEnds.{
  end_6,
  end_7,
  end_later,
  end_16,
  end_settled,
  ruled_out,
  result_room,
  days_of_year,
  pool_passed,
}
use Rattle.settling.proofs.call.settle_file.Goals as goal

pub returns-in_default : goal.returns-in_default
returns-in_default c = end_6 _ c.args.file.now c.args.res.now c.in_default.ensures

pub returns-then-not_a_file : goal.returns-then-not_a_file
returns-then-not_a_file c =
    end_7 _ _ c.args.res.now c.in-Some.ensures.0 c.not_a_file.ensures c.if-not_a_file.true

pub header_of-requires : goal.header_of-requires
header_of-requires c = file_has_header _ (sym c.not_a_file.ensures ∙ c.if-not_a_file.false)

pub later_grounds-requires : goal.later_grounds-requires
later_grounds-requires c = header_read (sym c.not_a_file.ensures ∙ c.if-not_a_file.false) c.header_of.ensures

pub returns-in_err-scanned : goal.returns-in_err-scanned
returns-in_err-scanned c =
    let refused = err_from_is_err_and c.from_residual.result c.from_residual.ensures.1 in
    rw (refused.1, refused.2)
    (end_later _ _ _ c.in-Some.ensures.0 c.not_a_file.ensures c.if-not_a_file.false c.in-Some.ensures.1
    c.in_err-scanned.ensures.answer (ground_some c.in_err-scanned.field-0.0))

pub ratio_of-requires : goal.ratio_of-requires
ratio_of-requires c =
    (ruled_out _ _ _ c.in-Some.held.read c.in-Some.ensures.1 c.in_ok-scanned.scanned.file c.in_ok-scanned.ensures).header_in_hold

pub pool_too_large-requires : goal.pool_too_large-requires
pool_too_large-requires c =
    ruled_out _ _ _ c.in-Some.held.read c.in-Some.ensures.1 c.in_ok-scanned.scanned.file c.in_ok-scanned.ensures

pub returns-then-pool_too_large : goal.returns-then-pool_too_large
returns-then-pool_too_large c =
    let large = rw c.in_ok-scanned.ensures.scanned.0 at (sym c.pool_too_large.ensures ∙ c.if-pool_too_large.true) in
    end_16 _ _ _ c.in-Some.ensures.0 c.not_a_file.ensures c.if-not_a_file.false c.in-Some.ensures.1
    c.in_ok-scanned.ensures.answer refl large

pub write_settled-requires : goal.write_settled-requires
write_settled-requires c = record {
  passed = ruled_out _ _ _ c.in-Some.held.read c.in-Some.ensures.1 c.in_ok-scanned.scanned.file c.in_ok-scanned.ensures;
  rows_in_bounds = result_room _ _ _ c.in-Some.held.read c.in-Some.ensures.1 c.in_ok-scanned.scanned.file c.in_ok-scanned.ensures;
  days_few = days_of_year _ _ _ c.in-Some.held.read c.in-Some.ensures.1 c.in_ok-scanned.scanned.file c.in_ok-scanned.ensures;
  pool_small = pool_passed _ c.pool_too_large.ensures c.if-pool_too_large.false;
}

pub returns : goal.returns
returns c =
    let file = c.in_ok-scanned.ensures.scanned.0 in
    let none = c.in_ok-scanned.ensures.answer in
    let small = pool_passed _ c.pool_too_large.ensures c.if-pool_too_large.false in
    end_settled _ _ _ c.in-Some.ensures.0 c.not_a_file.ensures c.if-not_a_file.false c.in-Some.ensures.1 none refl
    (rw file at small) (rw file at c.write_settled.ensures.ledger_after) (rw file at c.write_settled.ensures.res_after)
