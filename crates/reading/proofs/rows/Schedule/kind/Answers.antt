-- `reading::rows::Schedule::kind` meets its contract. It has a kind.
use Rattle.reading.specs.Values.{schedule_in}
use Rattle.reading.proofs.KindWords.{schedule_kind_within, schedule_kind_known}
use Rattle.reading.proofs.rows.Schedule.kind.Goals as goal

pub unwrap-requires : goal.unwrap-requires
unfolding schedule_in
unwrap-requires c =
    let within = schedule_kind_within (schedule_in c.args.self) c.requires in
    schedule_kind_known c.try_from.result c.try_from.ensures within.0 within.1
