-- `event::next_file` meets its contract: what is left is too short for a length, or for the file that it announces,
-- or has that file first.
use Rattle.event.proofs.FileLaws.{cut_length, file_due}
use Rattle.event.proofs.next_file.Goals as goal

pub returns-in_default : goal.returns-in_default
returns-in_default c = cut_length _ c.requires c.in_default.ensures.cases

-- after a length, enough bytes for the file that it announces are that file and what follows it,
-- and fewer are a cut
pub returns : goal.returns
returns c =
    let n = c.size.ensures in
    rw c.ok_or.ensures.value
    (file_due _ _ _ c.in-Some.ensures.cases _ n.value n.upper_bound _ c.split_at_checked-2.ensures.cases)
