-- `stream::next_block` meets its contract. Each test tells what comes next.
use native.Mathlib.Omega.{arith}
use lib.ListN.{length-append}
use Rattle.stream.specs.Code.{end_in, found_as}
use Rattle.stream.proofs.Laws.{due_cut, due_within, next_ended, next_cut, next_over, next_short, next_whole}
use Rattle.stream.proofs.next_block.Goals as goal

pub returns-then-got-eq0 : goal.returns-then-got-eq0
unfolding found_as end_in
returns-then-got-eq0 c =
    next_ended _ _
    (omega (arith, length-append c.args.head.now c.args.block.now, due_cut c.args.most c.args.head.now (omega arith)))

pub returns-then-got-lt-LENGTH_BYTES : goal.returns-then-got-lt-LENGTH_BYTES
unfolding found_as end_in
returns-then-got-lt-LENGTH_BYTES c =
    let long = length-append c.args.head.now c.args.block.now in
    next_cut _ _ (λ e. omega arith) (omega (arith, due_cut c.args.most c.args.head.now (omega arith)))

pub returns-then-most-bytes : goal.returns-then-most-bytes
unfolding found_as end_in
returns-then-most-bytes c = next_over _ _ _ (omega arith) _ c.size-bytes.ensures.value (omega arith)

pub returns-then-block-bytes : goal.returns-then-block-bytes
unfolding found_as end_in
returns-then-block-bytes c =
    next_short _ _ _ (omega arith) _ c.size-bytes.ensures.value (omega arith) (omega arith)

pub returns : goal.returns
unfolding found_as end_in
returns c =
    let n = c.size-bytes in
    let due = due_within c.args.most c.args.head.now (omega arith) n.result n.ensures.value (omega arith) in
    next_whole _ _ _ (omega arith) _ n.ensures.value (omega arith) (omega arith)
