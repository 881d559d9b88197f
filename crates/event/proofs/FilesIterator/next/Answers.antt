-- `event::FilesIterator::next` meets its contract: where no byte is left there is no file, and after one fewer bytes are left.
use Rattle.std.proofs.Common.{rules}
use Rattle.stream.proofs.Laws.{next_ended, rest_left}
use Rattle.event.proofs.FilesIterator.next.Goals as goal

pub returns-then-is_empty-clause-steps : goal.returns-then-is_empty-clause-steps
returns-then-is_empty-clause-steps c = next_ended _ _ (search rules)

pub returns-in-Ok-clause-goes : goal.returns-in-Ok-clause-goes
returns-in-Ok-clause-goes c = let shorter = (rest_left _ _ _ _ c.in-Ok.ensures).1 in search rules
