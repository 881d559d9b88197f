-- The bounds of values that no ground refuses, as the code holds them.
use Rattle.std.proofs.Common.{◌≡◌, false, ℕ, ◌≤◌, ◌+◌, ◌*◌, ◌+ℤ◌, [], arith, to_z, of_z, w64, FitsSigned, pos, negsuc, ℤ}
use native.Mathlib.Nat.{mul-le-mul}
use lib.IntN.{nat_abs}
use mir.ValLaws.{to_z-of_z}
use lib.Signed.{mag}
use Rattle.reading.specs.Block.{most_net_cone, leap_year, terms_outside}
use Rattle.reading.specs.Interval.{most_kilowatts, most_imports, row_with, header_outside, row_outside}
use Rattle.reading.specs.Values.{terms_in, header_in, row_in}
use Rattle.reading.specs.declared.block.Terms.{Terms}
use Rattle.reading.specs.declared.header.Header.{Header}
use Rattle.reading.specs.declared.rows.Row.{Row}
use Rattle.reading.proofs.Bounds.{terms_in_lem, header_in_hold, row_in_lem}
use Rattle.assessment.specs.Assessment.{most_actual, limit_factor, or_zero}
use Rattle.words.proofs.Ints.{plain, mag_sum}
use Rattle.assessment.proofs.Limits.{charge_product_le}
use Rattle.assessment.proofs.Promises.{or_zero_le, or_zero_sum}

-- the size that is known of a number in bits is at most its magnitude
pub mag_le : (z : ℤ) → mag z ≤ nat_abs z
mag_le (pos n) = omega arith
mag_le (negsuc n) = omega arith

-- terms that ground 2 does not refuse, and at most the most kW: what is multiplied for a limit, and for a charge
module _ (t : Terms) (within : terms_outside (terms_in t) ≡ false) where
  -- Net CONE is at most the highest
  pub net_cone_le : t.net_cone ≤ most_net_cone
  unfolding terms_in
  net_cone_le = (terms_in_lem (terms_in t) within).net_cone

  -- what is multiplied for a limit, before the kW
  pub limit_year_le : limit_factor * t.net_cone * t.days ≤ limit_factor * most_net_cone * leap_year
  unfolding terms_in
  limit_year_le =
      let cone : limit_factor * t.net_cone ≤ limit_factor * most_net_cone = omega (arith, net_cone_le) in
      mul-le-mul cone (terms_in_lem (terms_in t) within).days

  -- what is multiplied for a limit
  pub limit_kw_le : (kw : ℕ) → kw ≤ most_kilowatts
      → limit_factor * t.net_cone * t.days * kw ≤ limit_factor * most_net_cone * leap_year * most_kilowatts
  limit_kw_le kw most = mul-le-mul limit_year_le most

  -- what is multiplied for a charge, before the days
  pub charge_day_le : (short : ℕ) → short ≤ most_kilowatts → short * t.net_cone ≤ most_kilowatts * most_net_cone
  charge_day_le short most = mul-le-mul most net_cone_le

  -- what is multiplied for a charge
  pub charge_year_le : (short : ℕ) → short ≤ most_kilowatts
      → short * t.net_cone * t.days ≤ most_kilowatts * most_net_cone * leap_year
  unfolding terms_in
  charge_year_le short most = charge_product_le (terms_in t) short (terms_in_lem (terms_in t) within) most

-- what is known of the products of a limit, and of a charge
pub ruleset limit_products = (net_cone_le, limit_year_le, limit_kw_le)

pub ruleset charge_products = (charge_day_le, charge_year_le)

-- a header that ground 9 does not refuse
module _ (h : Header) (within : header_outside (header_in h) ≡ false) where
  -- its net imports are read back as they are
  pub imports_read : to_z w64 (of_z w64 h.imports) ≡ h.imports
  unfolding header_in
  imports_read = plain h.imports (omega (arith, mag_le h.imports, header_in_hold (header_in h) within))

  -- and add at most the most imports
  pub imports_le : or_zero h.imports ≤ most_imports
  unfolding header_in
  imports_le = omega (arith, or_zero_le h.imports, header_in_hold (header_in h) within)

-- what is known of net imports
pub ruleset net_imports = (imports_read, imports_le)

-- a row that ground 13 does not refuse
module _ (row : Row) (within : row_outside (row_in row) ≡ false) where
  -- its commitment is at most the most kW
  pub committed_le : row.committed ≤ most_kilowatts
  unfolding row_with row_in
  committed_le = (row_in_lem (row_in row) [] within).committed

  -- so are both outages
  pub outages_le : row.planned + row.forced ≤ 2 * most_kilowatts
  unfolding row_with row_in
  outages_le = omega (arith, row_in_lem (row_in row) [] within)

  -- its metered kW are read back as they are
  pub metered_read : to_z w64 (of_z w64 row.metered) ≡ row.metered
  unfolding row_with row_in
  metered_read = plain row.metered (omega (arith, mag_le row.metered, row_in_lem (row_in row) [] within))

  -- and so is its adjustment
  pub adjustment_read : to_z w64 (of_z w64 row.adjustment) ≡ row.adjustment
  unfolding row_with row_in
  adjustment_read = plain row.adjustment (omega (arith, mag_le row.adjustment, row_in_lem (row_in row) [] within))

  -- the sum of both fits
  pub net_fits : FitsSigned w64 (row.metered +ℤ row.adjustment)
  unfolding row_with row_in
  net_fits =
      let r = row_in_lem (row_in row) [] within in
      let m : mag row.metered ≤ most_kilowatts = omega (arith, mag_le row.metered, r.metered) in
      let a : mag row.adjustment ≤ most_kilowatts = omega (arith, mag_le row.adjustment, r.adjustment) in
      record { sfits = omega (arith, mag_sum row.metered row.adjustment) }

  -- so that it is read back as it is
  pub net_read : to_z w64 (of_z w64 (row.metered +ℤ row.adjustment)) ≡ row.metered +ℤ row.adjustment
  net_read = to_z-of_z w64 _ net_fits

  -- and at least 0 it is at most the most actual
  pub net_le : or_zero (row.metered +ℤ row.adjustment) ≤ most_actual
  unfolding row_with row_in
  net_le = omega (arith, or_zero_sum row.metered row.adjustment, row_in_lem (row_in row) [] within)

-- what is known of net kW
pub ruleset net_kilowatts = (metered_read, adjustment_read, net_fits, net_read, net_le)
