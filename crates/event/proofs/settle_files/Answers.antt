-- `event::settle_files` meets its contract.
-- What is left to do after some files is an event of the rest of the files and of the result.
use Rattle.std.proofs.lemmas.Result.{err_from_is_err_and}
use Rattle.event.proofs.FilesLaws.{going_start, going_end, going_cut, going_refused, going_on}
use Rattle.event.proofs.settle_files.Goals as goal

pub loop-found-init : goal.loop-found-init
loop-found-init c = rw c.into_iter-found-iterator.ensures.into_iter_gives (going_start _ _ _)

pub returns-in_err-file : goal.returns-in_err-file
returns-in_err-file c =
    let p = err_from_is_err_and c.from_residual.result c.from_residual.ensures.1 in
    let cut = rw c.in_err-file.was at c.in-Some.ensures.steps in
    rw (p.1, p.2, cut.1) (going_cut c.loop-found.invariant cut.0)

pub returns-in_err-bytes : goal.returns-in_err-bytes
returns-in_err-bytes c =
    let is = rw c.in_ok-file.was at c.in-Some.ensures.steps in
    let ends = going_refused c.loop-found.invariant _ _ _ _ is _ (rw c.in_err-bytes.was at c.settle_next.ensures) in
    let p = err_from_is_err_and c.from_residual-in_err-bytes.result c.from_residual-in_err-bytes.ensures.1 in
    rw (p.1, p.2) ends

pub loop-found-preserved : goal.loop-found-preserved
loop-found-preserved c =
    let is = rw c.in_ok-file.was at c.in-Some.ensures.steps in
    going_on c.loop-found.invariant _ _ _ _ is _ (rw c.in_ok-bytes.was at c.settle_next.ensures)

pub returns : goal.returns
returns c = going_end c.loop-found.invariant c.in-None.ensures.steps
