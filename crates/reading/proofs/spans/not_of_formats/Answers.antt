-- `reading::spans::not_of_formats` meets its contract. Bytes of no format are of neither.
use mathlib.Core.Path.{sym}
use Rattle.reading.specs.Values.{sizes_in}
use Rattle.reading.proofs.SpanTests.{of_no_format}
use Rattle.reading.proofs.spans.not_of_formats.Goals as goal

pub returns-in-None : goal.returns-in-None
unfolding sizes_in
returns-in-None c =
    sym (of_no_format _ _ _ c.in-None.ensures c.requires.format_bytes_le_least c.requires.format_bytes_le_least_2)
