-- `stream::due_part` meets its contract. As many bytes are due as the buffer has at its front, or fewer.
use mathlib.Core.Path.{sym, ap, ◌∙◌}
use lib.ListN.{take}
use lib.Seq.{length-take-le}
use native.Mathlib.Omega.{arith}
use Rattle.stream.proofs.due_part.Goals as goal

pub slice_bounds-result-end : goal.slice_bounds-result-end
slice_bounds-result-end c = sym (length-take-le _ _ (omega arith))

pub returns : goal.returns
returns c =
    let due = c.bytes_due-due in
    let buffer = c.args.buffer.now in
    record {
      result_value = ap (λ n. take n buffer) due.ensures.value;
      result_len = length-take-le due.result buffer (omega arith) ∙ due.ensures.value;
    }
