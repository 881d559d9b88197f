-- `listing::lines::put_decimal` meets its contract. One digit stands alone, and the library's text of more is ours.
use native.Mathlib.Omega.{arith}
use Rattle.std.proofs.lemmas.Grind.{common_steps}
use Rattle.listing.proofs.Digits.{decimal_one, decimal_same}
use Rattle.listing.proofs.lines.put_decimal.Goals as goal

pub returns-then-v-lt-BASE : goal.returns-then-v-lt-BASE
returns-then-v-lt-BASE g c =
    let one = decimal_one c.args.v (omega arith) in record {
      puts = grind (arith, common_steps);
      fits = grind (arith, common_steps);
    }

pub returns : goal.returns
returns g c =
    let same = decimal_same c.args.v (omega arith) in record {
      puts = grind (arith, common_steps);
      fits = grind (arith, common_steps);
    }
