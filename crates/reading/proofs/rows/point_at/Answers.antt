-- `reading::rows::point_at` meets its contract. Its two words, read where the point stands.
use Prim.Native.Nat.{◌*◌, ◌+◌}
use mathlib.Core.Path.{◌≡◌, sym, ap, ◌∙◌}
use native.Mathlib.Omega.{arith}
use Rattle.words.specs.Words.{number_at}
use Rattle.words.proofs.Ints.{plain}
use Rattle.reading.specs.Interval.{point_of, point_at}
use Rattle.reading.specs.Values.{point_in}
use Rattle.reading.proofs.Parts.{signed_field, word_part}
use Rattle.reading.proofs.rows.point_at.Goals as goal

pub returns : goal.returns
unfolding point_in point_at point_of
returns c =
    let b = c.args.curve.now in
    let at = 8 * c.args.j in
    let p = c.signed in
    let here : at ≡ at + 4 * 0 = omega arith in
    let first = c.number.ensures.value ∙ ap (number_at 4 b) here ∙ sym (word_part at b 0) in
    let price = signed_field p.result p.ensures.value p.ensures.result_bound first in
    let kw = c.number-2.ensures.value ∙ sym (word_part at b 1) in
    record {
      result_value = λ x. record { price = price x; kw = kw x };
      price_bound = rw (plain p.result (omega (arith, p.ensures.result_bound))) p.ensures.result_bound;
      kw_bound = c.number-2.ensures.upper_bound;
    }
