-- `reading::rows::Row::kind` meets its contract. Ground 13 refuses a word above the last kind.
use Rattle.reading.specs.Values.{row_in}
use Rattle.reading.proofs.KindWords.{kind_low, kind_known}
use Rattle.reading.proofs.rows.Row.kind.Goals as goal

pub unwrap-requires : goal.unwrap-requires
unfolding row_in
unwrap-requires c = kind_known c.try_from.result c.try_from.ensures (kind_low (row_in c.args.self) c.requires)
