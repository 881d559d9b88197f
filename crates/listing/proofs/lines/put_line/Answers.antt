-- `listing::lines::put_line` meets its contract. What is left to put is the line of the numbers from v on.
use Prim.Native.Nat.{◌-◌}
use Rattle.std.specs.Prelude.{slice_index}
use mathlib.Core.Path.{◌≡◌, sym, ap, ◌∙◌}
use mathlib.Core.List.{◌++◌}
use native.Mathlib.Omega.{arith}
use lib.ListN.{length}
use Rattle.std.proofs.lemmas.List.{length-take-le, get_or-take}
use Rattle.listing.proofs.LineLaws.{put_rest, line_turn, line_end}
use Rattle.listing.proofs.lines.put_line.Goals as goal

pub loop-v-preserved : goal.loop-v-preserved
loop-v-preserved g c =
    let ns = c.args.numbers.now in
    let front = length-take-le (length ns - 1) ns (omega arith) in
    record {
      left = put_rest _ _ _ _ _ _ c.put_number.ensures.puts
          (line_turn c.loop-v.v-index _ ns (omega arith)
          (get_or-take (length ns - 1) ns c.loop-v.v-index 0 (omega arith)))
          c.loop-v.invariant.left;
      room = omega arith;
    }

pub returns : goal.returns
returns g c =
    let ns = c.args.numbers.now in
    let front = length-take-le (length ns - 1) ns (omega arith) in
    let at : c.loop-v.v-index ≡ length ns - 1 = omega arith in
    let end = line_end c.loop-v.v-index _ ns (omega arith) (ap (λ i. slice_index ns i) (sym at)) in
    record {
      puts = c.put_number-2.ensures.puts ∙ ap (λ l. c.loop-v.out.items ++ l) (sym end) ∙ c.loop-v.invariant.left;
      fits = omega arith;
    }
