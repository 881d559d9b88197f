-- `listing::lines::put_word_line` meets its contract. What is left to put is the line of the words from k on.
use Prim.Native.Nat.{◌-◌}
use mathlib.Core.Path.{◌≡◌, sym, ap, ◌∙◌}
use mathlib.Core.List.{◌++◌}
use native.Mathlib.Omega.{arith}
use lib.ListN.{get_or}
use Rattle.words.specs.Words.{words_in}
use Rattle.listing.proofs.LineLaws.{put_rest, line_turn, line_end, words_long, word_of}
use Rattle.listing.proofs.lines.put_word_line.Goals as goal

pub loop-k-preserved : goal.loop-k-preserved
loop-k-preserved g c =
    let long = words_long c.args.n c.args.b.now in
    record {
      left = put_rest _ _ _ _ _ _ c.put_number.ensures.puts
          (line_turn c.loop-k.k _ (words_in c.args.n c.args.b.now) (omega arith)
          (c.number.ensures.value ∙ word_of _ _ _ (omega arith)))
          c.loop-k.invariant.left;
      room = omega arith;
    }

pub returns : goal.returns
returns g c =
    let long = words_long c.args.n c.args.b.now in
    let at : c.loop-k.k ≡ c.args.n - 1 = omega arith in
    let end = line_end c.loop-k.k _ (words_in c.args.n c.args.b.now) (omega arith)
    (c.number-2.ensures.value ∙ word_of c.args.n (c.args.n - 1) _ (omega arith)
    ∙ ap (λ i. get_or (words_in c.args.n c.args.b.now) i 0) (sym at)) in
    record {
      puts = c.put_number-2.ensures.puts ∙ ap (λ l. c.loop-k.out.items ++ l) (sym end) ∙ c.loop-k.invariant.left;
      fits = omega arith;
    }
