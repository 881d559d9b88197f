-- `settling::result::write_row` meets its contract. Without room nothing is written; else eight words at the front of
-- the row's part of the result.
use Prim.Native.Nat.{◌≤◌}
use native.Mathlib.Omega.{arith}
use borrow.Author.Tests.{le-ltb}
use lib.ListN.{length}
use Rattle.words.proofs.Access.{part_written}
use Rattle.settling.proofs.result.write_row.Goals as goal

pub returns : goal.returns
returns c =
    let more : c.result_bytes.result ≤ length c.args.res.now = omega (arith, c.if-res-result_bytes.false) in
    rw (← c.result_bytes.ensures, le-ltb _ _ more, ← c.result_bytes-at.ensures)
    (part_written _ _ c.args.res.now _ c.store.ensures)
