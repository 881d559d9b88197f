-- `reading::rows::row_of` meets its contract. Each word is the number at its place.
use native.Mathlib.Omega.{arith}
use Rattle.words.specs.Words.{word32}
use Rattle.reading.specs.Interval.{row_words}
use Rattle.reading.specs.Values.{row_in}
use Rattle.reading.proofs.Layouts.{row_fifteen}
use Rattle.reading.proofs.Parts.{signed_field}
use Rattle.reading.proofs.rows.row_of.Goals as goal

pub schedules_word-requires : goal.schedules_word-requires
schedules_word-requires c other = omega (arith, c.requires, row_fifteen other)

pub returns-clause-words : goal.returns-clause-words
unfolding row_in row_words word32
returns-clause-words c =
    let metered = c.signed in
    let adjustment = c.signed-2 in
    let lmp = c.signed-3 in
    let fifth = signed_field metered.result metered.ensures.value metered.ensures.result_bound
    c.number-5.ensures.value in
    let sixth = signed_field adjustment.result adjustment.ensures.value adjustment.ensures.result_bound
    c.number-6.ensures.value in
    let twelfth = signed_field lmp.result lmp.ensures.value lmp.ensures.result_bound c.number-12.ensures.value in
    λ x. record {
      id = c.number.ensures.value x;
      kind = c.number-2.ensures.value x;
      committed = c.number-3.ensures.value x;
      owned = c.number-4.ensures.value x;
      metered = fifth x;
      adjustment = sixth x;
      planned = c.number-7.ensures.value x;
      forced = c.number-8.ensures.value x;
      maximum = c.number-9.ensures.value x;
      minimum = c.number-10.ensures.value x;
      online = c.number-11.ensures.value x;
      lmp = twelfth x;
      first = c.size.ensures.value x;
      count = c.size-2.ensures.value x;
      dispatched = c.schedules_word.ensures x;
    }
