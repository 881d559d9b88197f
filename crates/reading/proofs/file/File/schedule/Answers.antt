-- `reading::file::File::schedule` meets its contract. By the format: the row's own, or one of the table.
use Prim.Native.Nat.{ℕ, ◌+◌, ◌*◌, ◌<◌}
use mathlib.Core.Path.{◌≡◌, sym, ap, ◌∙◌}
use mathlib.Core.List.{List}
use mathlib.Core.Bool.{false}
use native.Mathlib.Omega.{arith}
use lib.ListN.{length, drop}
use Rattle.reading.specs.Interval.{RowWords, schedule_bytes, schedule_words, schedules_named, schedules_beyond}
use Rattle.reading.specs.Kinds.{format_of}
use Rattle.reading.specs.Values.{header_in, row_in, schedule_in, HeaderRead}
use Rattle.reading.specs.declared.header.Format.TheVariants.{Schedules}
use Rattle.reading.specs.declared.header.Header.{Header}
use Rattle.reading.proofs.Facts.{format_said, other_said}
use Rattle.reading.proofs.Layouts.{curves_said, schedules_said}
use Rattle.reading.proofs.Schedules.{length_table, at_curves, at_table, schedules_end}
use Rattle.reading.proofs.file.File.schedule.Goals as goal

-- where rows name schedules, and those of a row do not reach beyond the table, each of them is one of the table
in_table : {f : List ℕ} {h : Header} → HeaderRead f h → Schedules ≡ format_of h.format
    → (w : RowWords) → schedules_beyond (header_in h) w ≡ false → (k : ℕ) → k < length (schedules_named f w)
    → w.first + k < h.schedules
unfolding header_in
in_table {f} {h} read named w lie k below =
    let other : (h.format ≡ 1 → ⊥) = schedules_said named in
    let number = length_table f w (other_said read other) in
    let ends = schedules_end (header_in h) w other lie (omega (arith, below, number)) in
    omega (arith, below, number, ends)

pub overflow_add-row : goal.overflow_add-row
unfolding row_in
overflow_add-row c =
    let below = in_table c.args.self.now.tabled.read c.in-Schedules.ensures (row_in c.args.row)
    c.requires.within_table c.args.k c.requires.k_lt_count in
    omega (arith, below)

pub table_schedule-requires : goal.table_schedule-requires
unfolding row_in
table_schedule-requires c =
    in_table c.args.self.now.tabled.read c.in-Schedules.ensures (row_in c.args.row) c.requires.within_table
    c.args.k c.requires.k_lt_count

pub returns-in-Curves-clause-value : goal.returns-in-Curves-clause-value
unfolding row_in schedule_in
returns-in-Curves-clause-value c =
    let one = sym (format_said c.args.self.now.tabled.read) ∙ curves_said c.in-Curves.ensures in
    sym (at_curves c.args.self.now.bytes.now (row_in c.args.row) one c.args.k c.requires.k_lt_count)

pub returns-in-Schedules-clause-value : goal.returns-in-Schedules-clause-value
unfolding header_in row_in
returns-in-Schedules-clause-value c =
    let w = row_in c.args.row in
    let two = other_said c.args.self.now.tabled.read (schedules_said c.in-Schedules.ensures) in
    c.table_schedule.ensures.words
    ∙ ap
    (λ h. schedule_words (drop (h.schedules_offset + schedule_bytes * (w.first + c.args.k)) c.args.self.now.bytes.now))
    c.args.self.now.tabled.read.says
    ∙ sym (at_table c.args.self.now.bytes.now w two c.args.k c.requires.k_lt_count)
