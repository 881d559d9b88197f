-- `reading::header::header_of` meets its contract. Each word is the number at its place.
use mathlib.Core.Path.{ap, ◌∙◌}
use native.Mathlib.Omega.{arith}
use Rattle.words.specs.Words.{word32}
use Rattle.reading.specs.Interval.{by_format, header_of}
use Rattle.reading.specs.Values.{header_in}
use Rattle.reading.proofs.Layouts.{header_twelve}
use Rattle.reading.proofs.Parts.{signed_field}
use Rattle.reading.proofs.header.header_of.Goals as goal

pub schedules_word-requires : goal.schedules_word-requires
unfolding header_of word32
schedules_word-requires c other =
    omega (arith, header_twelve (λ same. other (c.number-format.ensures.value ∙ same)), c.requires)

pub schedules_word-requires-2 : goal.schedules_word-requires-2
unfolding header_of word32
schedules_word-requires-2 c other =
    omega (arith, header_twelve (λ same. other (c.number-format.ensures.value ∙ same)), c.requires)

pub returns : goal.returns
unfolding header_in header_of word32
returns c =
    let imports = c.signed in
    let word = c.number-5.ensures.value in
    let sixth = signed_field imports.result imports.ensures.value imports.ensures.result_bound word in
    let file = c.args.file.now in
    let format = c.number-format.ensures.value in
    let tenth = c.schedules_word.ensures ∙ ap (λ k. by_format k 0 (word32 file 10)) format in
    let eleventh = c.schedules_word-2.ensures ∙ ap (λ k. by_format k 40 (word32 file 11)) format in
    λ x. record {
      format = format x;
      interval = c.number.ensures.value x;
      net_cone = c.number-2.ensures.value x;
      days = c.number-3.ensures.value x;
      region_wide = c.number-4.ensures.value x;
      imports = sixth x;
      row_count = c.size.ensures.value x;
      rows_offset = c.size-2.ensures.value x;
      point_count = c.size-3.ensures.value x;
      points_offset = c.size-4.ensures.value x;
      schedule_count = tenth x;
      schedules_offset = eleventh x;
    }
