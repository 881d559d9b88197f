-- `stream::bytes_due` meets its contract. The bytes read of the length, and the number in them, decide.
use mathlib.Core.Path.{sym}
use native.Mathlib.Omega.{arith}
use Rattle.stream.proofs.Laws.{due_cut, due_over, due_within}
use Rattle.stream.proofs.bytes_due.Goals as goal

pub returns-then-head-lt-LENGTH_BYTES : goal.returns-then-head-lt-LENGTH_BYTES
returns-then-head-lt-LENGTH_BYTES c =
    record { value = sym (due_cut _ _ (omega arith)); upper_bound = omega arith }

pub returns-then-most-n : goal.returns-then-most-n
returns-then-most-n c =
    record {
      value = sym (due_over _ _ (omega arith) _ c.size-n.ensures.value (omega arith));
      upper_bound = omega arith;
    }

pub returns : goal.returns
returns c = record {
  value = sym (due_within _ _ (omega arith) _ c.size-n.ensures.value (omega arith));
  upper_bound = omega arith;
}
