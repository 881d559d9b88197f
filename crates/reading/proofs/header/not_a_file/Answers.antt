-- `reading::header::not_a_file` meets its contract. Each format has room for its word.
use mathlib.Core.Path.{ap}
use native.Mathlib.Omega.{arith}
use Rattle.reading.specs.Formats.{Sizes}
use Rattle.reading.specs.Interval.{curves_format, schedules_format, file_sizes}
use Rattle.reading.specs.Values.{sizes_in}
use Rattle.reading.proofs.Layouts.{header_least}
use Rattle.reading.proofs.header.not_a_file.Goals as goal

pub not_of_formats-requires-clause-format_bytes_le_least :
    goal.not_of_formats-requires-clause-format_bytes_le_least
unfolding sizes_in file_sizes
not_of_formats-requires-clause-format_bytes_le_least c =
    omega (arith, header_least curves_format, ap (λ (s : Sizes). s.least) c.file_sizes.ensures)

pub not_of_formats-requires-clause-format_bytes_le_least_2 :
    goal.not_of_formats-requires-clause-format_bytes_le_least_2
unfolding sizes_in file_sizes
not_of_formats-requires-clause-format_bytes_le_least_2 c =
    omega (arith, header_least schedules_format, ap (λ (s : Sizes). s.least) c.file_sizes-2.ensures)
