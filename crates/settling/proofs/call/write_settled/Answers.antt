-- `settling::call::write_settled`: rows, credits and accounts, then the interval's words and those before the accounts;
-- each figure is that of the interval.
use mathlib.Core.Path.{refl}
use native.Mathlib.Omega.{arith}
use Rattle.ledger.specs.Values.{standing_in}
use Rattle.settling.specs.Settling.{result_bytes}
use Rattle.settling.proofs.SettledLaws.{pool_of, pool_made, rest_made}
use Rattle.settling.proofs.CallLaws.{
  next_fits,
  header_room,
  charged_long,
  charged_stands,
  result_written,
  ledger_written,
}
use Rattle.settling.proofs.call.write_settled.Goals as goal

pub plus-pool-requires : goal.plus-pool-requires
plus-pool-requires c =
    omega (arith, pool_of c.requires.passed c.charge_rows-sums.ensures.charges_value, c.requires.pool_small)

pub invariant_of-share : goal.invariant_of-share
invariant_of-share c =
    let whole = pool_made c.requires.passed c.charge_rows-sums.ensures.charges_value c.plus-pool.ensures in
    record { pool_limit = omega (arith, whole, c.requires.pool_small) }

pub post_rows-credits-requires : goal.post_rows-credits-requires
post_rows-credits-requires c =
    let pre = c.requires in
    let sums = c.charge_rows-sums.ensures in
    let long = charged_long pre.passed _ pre.rows_in_bounds sums.res_after in
    let whole = pool_made pre.passed sums.charges_value c.plus-pool.ensures in
    record {
      passed = pre.passed;
      rows_in_bounds = omega (arith, long, pre.rows_in_bounds);
      res_value = charged_stands pre.passed _ pre.rows_in_bounds sums.res_after;
      pool_value = whole;
      bonus_value = sums.bonus_value;
    }

pub write_summary-requires : goal.write_summary-requires
unfolding result_bytes
write_summary-requires c =
    let pre = c.requires in
    let long = charged_long pre.passed _ pre.rows_in_bounds c.charge_rows-sums.ensures.res_after in
    omega (arith, long, pre.rows_in_bounds, c.post_rows-credits.auto)

pub overflow_add-standing : goal.overflow_add-standing
overflow_add-standing c = record { fits = next_fits c.requires.passed c.requires.days_few }

pub write_standing-requires : goal.write_standing-requires
write_standing-requires c = omega (arith, header_room c.requires.passed, c.post_rows-credits.auto)

pub returns : goal.returns
unfolding standing_in
returns c =
    let p = c.requires.passed in
    let sums = c.charge_rows-sums.ensures in
    let put = c.post_rows-credits.ensures in
    let rest = rest_made p (pool_made p sums.charges_value c.plus-pool.ensures) put.result_value c.minus-carried.ensures in
    record {
      ledger_after = ledger_written p refl rest put.ledger_after c.write_standing.ensures;
      res_after = result_written p _ c.requires.rows_in_bounds sums.res_after _ c.args.interval.now.ratio_is sums.charges_value
          put.result_value rest sums.bonus_value put.res_after c.write_summary.ensures;
    }
