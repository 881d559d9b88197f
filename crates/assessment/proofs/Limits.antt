-- Limits and charges, each a product over a divisor: how they rise, what they are at most, and the cut of a charge.
use Prim.Native.Nat.{ℕ, zero, suc, ◌+◌, ◌-◌, ◌*◌, ◌/◌, ◌≤◌, ◌<◌, max}
use mathlib.Core.Path.{◌≡◌, refl, ap, ◌∙◌}
use mathlib.Core.Bool.{Bool, true, false, cond}
use lib.Dec.{eqb}
use borrow.Author.Tests.{eq-eqb, ne_eqb}
use native.Mathlib.Nat.{
  mul_assoc,
  mul-le-mul_left,
  mul-le-mul,
  div-zero,
  div-eq_of_lt,
  div-mul-le_self,
  le-div_iff_mul-le,
}
use native.Mathlib.Omega.{arith}
use Rattle.reading.specs.Block.{Terms, most_net_cone, leap_year, transition_year}
use Rattle.reading.specs.Interval.{most_kilowatts}
use Rattle.reading.proofs.Bounds.{TermsIn}
use Rattle.assessment.specs.Assessment.{
  limit_factor,
  Divisors,
  divisors,
  limit_over,
  limit,
  charge_over,
  full_charge,
  charge,
  Account,
  raised,
}
use Rattle.assessment.specs.Values.{most_charge}
use Rattle.assessment.specs.Claims.{hundredths, WithinTariff, LimitOfTariff}

-- a quotient rises with what is divided, and falls as the divisor grows
quotient_le : {a b d e : ℕ} → 0 < d → d ≤ e → a ≤ b → a / e ≤ b / d
quotient_le {a} {b} {d} {e} some wider h =
    let below : a / e * d ≤ b = omega (arith, mul-le-mul_left (a / e) wider, div-mul-le_self a e) in
    (le-div_iff_mul-le {k = d} {x = a / e} {y = b} some).1 below

-- likewise a quotient to the nearest whole number
nearest_le : {a b d e : ℕ} → 0 < d → d ≤ e → a ≤ b → (a + e / 2) / e ≤ (b + d / 2) / d
nearest_le {a} {b} {d} {e} some wider h =
    let near = (a + e / 2) / e in
    (le-div_iff_mul-le {k = d} {x = near} {y = b + d / 2} some).1 (by near (div-mul-le_self (a + e / 2) e))
  where
    by : (n : ℕ) → n * e ≤ a + e / 2 → n * d ≤ b + d / 2
    by zero below = omega arith
    by (suc n) below = omega (arith, mul-le-mul_left n wider)

-- over one divisor, whatever it is, a quotient rises with what is divided
pub div_rises : (d : ℕ) {a b : ℕ} → a ≤ b → a / d ≤ b / d
div_rises zero {a} {b} h = rw (div-zero a, div-zero b) (omega arith)
div_rises (suc d) {a} {b} h = quotient_le (omega arith) (omega arith) h

-- over any divisor a limit rises with the kW
pub limit_over_rises : (divisor : ℕ) (t : Terms) {a b : ℕ} → a ≤ b → limit_over divisor t a ≤ limit_over divisor t b
unfolding limit_over
limit_over_rises divisor t h = div_rises divisor (mul-le-mul_left (limit_factor * t.net_cone * t.days) h)

-- the divisors of a year
module _ (t : Terms) where
  -- those of 2016
  pub divisors_of_transition : t.year ≡ transition_year → divisors t ≡ record { limit = 4000; charge = 720000 }
  unfolding divisors
  divisors_of_transition e = rw (eq-eqb t.year transition_year e)

  -- those of any other year
  pub divisors_of_others : (t.year ≡ transition_year → ⊥) → divisors t ≡ record { limit = 2000; charge = 360000 }
  unfolding divisors
  divisors_of_others other = rw (ne_eqb t.year transition_year other)

  -- none are below those of a year that is not named
  pub least_divisors : (2000 ≤ (divisors t).limit) × (360000 ≤ (divisors t).charge)
  unfolding divisors
  least_divisors = by (eqb t.year transition_year)
    where
      of : Bool → Divisors
      of transition =
          cond transition (record { limit = 4000; charge = 720000 }) (record { limit = 2000; charge = 360000 })

      by : (transition : Bool) → (2000 ≤ (of transition).limit) × (360000 ≤ (of transition).charge)
      by true = (omega arith, omega arith)
      by false = (omega arith, omega arith)

-- the limit rises with the largest commitment
pub limit_rises : (t : Terms) {a b : ℕ} → a ≤ b → limit t a ≤ limit t b
unfolding limit
limit_rises t h = limit_over_rises (divisors t).limit t h

-- the largest limit of any account
abbrev pub most_limit : ℕ
most_limit = limit_factor * most_net_cone * leap_year * most_kilowatts / 2000

-- what is divided for a limit, on terms within their bounds and for at most the most kW
pub limit_product_le : (t : Terms) (kw : ℕ) → TermsIn t → kw ≤ most_kilowatts
    → limit_factor * t.net_cone * t.days * kw ≤ limit_factor * most_net_cone * leap_year * most_kilowatts
limit_product_le t kw i k =
    let cone : limit_factor * t.net_cone ≤ limit_factor * most_net_cone = omega (arith, i.net_cone) in
    let year : limit_factor * t.net_cone * t.days ≤ limit_factor * most_net_cone * leap_year = mul-le-mul cone i.days in
    mul-le-mul year k

-- it gives no more than the largest limit, over any divisor of at least 2000
pub limit_over_le : (divisor : ℕ) (t : Terms) (kw : ℕ) → 2000 ≤ divisor → TermsIn t → kw ≤ most_kilowatts
    → limit_over divisor t kw ≤ most_limit
unfolding limit_over
limit_over_le divisor t kw wide i k = quotient_le {d = 2000} (omega arith) wide (limit_product_le t kw i k)

-- and so no account's limit is larger
pub limit_le : (t : Terms) (kw : ℕ) → TermsIn t → kw ≤ most_kilowatts → limit t kw ≤ most_limit
unfolding limit
limit_le t kw i k = limit_over_le (divisors t).limit t kw (least_divisors t).0 i k

-- the largest charge of any row, in cents
pub most_charge_lem : most_charge ≡ 813333333
unfolding full_charge charge_over divisors
most_charge_lem = refl

-- what is divided for a charge, on terms within their bounds and for at most the most kW
pub charge_product_le : (t : Terms) (short : ℕ) → TermsIn t → short ≤ most_kilowatts
    → short * t.net_cone * t.days ≤ most_kilowatts * most_net_cone * leap_year
charge_product_le t short i k = mul-le-mul (mul-le-mul k i.net_cone) i.days

-- it gives no more than the largest charge, over any divisor of at least 360000
pub charge_over_le : (divisor : ℕ) (t : Terms) (short : ℕ) → 360000 ≤ divisor → TermsIn t → short ≤ most_kilowatts
    → charge_over divisor t short ≤ most_charge
unfolding charge_over full_charge divisors
charge_over_le divisor t short wide i k = nearest_le {d = 360000} (omega arith) wide (charge_product_le t short i k)

-- and so no charge before the cut is larger
pub full_charge_le : (t : Terms) (short : ℕ) → TermsIn t → short ≤ most_kilowatts → full_charge t short ≤ most_charge
unfolding full_charge
full_charge_le t short i k = charge_over_le (divisors t).charge t short (least_divisors t).1 i k

-- nothing short costs nothing, over any divisor
pub charge_over_none : (divisor : ℕ) (t : Terms) → 0 < divisor → charge_over divisor t 0 ≡ 0
unfolding charge_over
charge_over_none divisor t some = div-eq_of_lt (omega arith)

-- a charge is at most the charge before the cut
pub charge_le_full : (t : Terms) (a : Account) (short : ℕ) → charge t a short ≤ full_charge t short
unfolding charge
charge_le_full t a short = omega arith

-- on terms within their bounds and for at most the most kW it is at most the largest charge
pub charge_most : (t : Terms) (a : Account) (short : ℕ) → TermsIn t → short ≤ most_kilowatts
    → charge t a short ≤ most_charge
charge_most t a short i k = omega (arith, charge_le_full t a short, full_charge_le t short i k)

-- a charge to a raised account is at most what is left under its limit
pub charge_le : (t : Terms) (kw : ℕ) (a : Account) (short : ℕ)
    → charge t (raised kw a) short ≤ limit t (max a.largest kw) - a.charged
unfolding charge raised
charge_le t kw a short = omega arith

-- the limit is the most whole cents within the tariff's part
pub limit_of_tariff : LimitOfTariff
unfolding LimitOfTariff WithinTariff hundredths limit limit_over divisors
limit_of_tariff t kw cents = by (eqb t.year transition_year)
  where
    of : Bool → Divisors
    of transition =
        cond transition (record { limit = 4000; charge = 720000 }) (record { limit = 2000; charge = 360000 })

    product : ℕ
    product = t.net_cone * t.days * kw

    grouped : limit_factor * t.net_cone * t.days * kw ≡ limit_factor * product
    grouped =
        ap (λ x. x * kw) (mul_assoc limit_factor t.net_cone t.days)
        ∙ mul_assoc limit_factor (t.net_cone * t.days) kw

    by : (transition : Bool)
        → (cents ≤ limit_factor * t.net_cone * t.days * kw / (of transition).limit
        → 100 * (1000 * cents) ≤ cond transition 75 150 * product)
        × (100 * (1000 * cents) ≤ cond transition 75 150 * product
        → cents ≤ limit_factor * t.net_cone * t.days * kw / (of transition).limit)
    by true = (λ h. omega (arith, h, grouped), λ h. omega (arith, h, grouped))
    by false = (λ h. omega (arith, h, grouped), λ h. omega (arith, h, grouped))

-- so what a limit allows is within it
pub within_tariff : (t : Terms) (kw cents : ℕ) → cents ≤ limit t kw → WithinTariff t kw cents
unfolding LimitOfTariff
within_tariff t kw cents = (limit_of_tariff t kw cents).0
