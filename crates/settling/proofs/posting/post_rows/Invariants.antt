-- `settling::posting::post_rows`: what is left to credit and to post is that of the rows from i on, each found by the
-- walk from its account on.
use Rattle.settling.proofs.PostingLaws.{Pass}
use Rattle.settling.proofs.posting.post_rows.Given as goal

abbrev pub invariant-loop-i : goal.invariant-loop-i
invariant-loop-i l =
    Pass l.initial.ledger l.scanned.file.bytes.now l.initial.res l.ledger l.res l.credits.0 l.i l.walk.account l.walk.budget
