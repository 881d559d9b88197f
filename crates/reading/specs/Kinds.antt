-- The enums of the code, by the papers' numbers: the format of a file, the kind of a row and that of a schedule.
use Rattle.std.specs.Prelude.{ℕ, ◌≡◌, ◌<◌, ◌⊎◌, Result, MatchResult}
use Rattle.reading.specs.Interval.{by_format, last_kind, market, price_based, cost}
use Rattle.reading.specs.declared.header.Format.{Format}
use Rattle.reading.specs.declared.header.Format.TheVariants.{Curves, Schedules}
use Rattle.reading.specs.declared.rows.Kind.{Kind}
use Rattle.reading.specs.declared.rows.Kind.TheVariants.{Generation, Demand, Efficiency, Responsive, EnergyOnly, Importer}
use Rattle.reading.specs.declared.rows.ScheduleKind.{ScheduleKind}
use Rattle.reading.specs.declared.rows.ScheduleKind.TheVariants.{Market, PriceBased, Cost}
use Rattle.reading.specs.declared.rows.NoKind.{NoKind}

-- the format by which a file is read that begins with a word: word 1 is that of curves, and any other, of which
-- ground 7 lets 2 alone through, that of schedules
abbrev pub format_of : ℕ → Format
format_of word = by_format word Curves Schedules

-- the kind word of a row of a kind
abbrev pub kind_number : Kind → ℕ
kind_number Generation = 0
kind_number Demand = 1
kind_number Efficiency = 2
kind_number Responsive = 3
kind_number EnergyOnly = 4
kind_number Importer = 5

-- a kind word read: the kind of that number, or none if it is higher than all
abbrev pub KindRead : ℕ → Result Kind NoKind → Type 0
KindRead word read = MatchResult read (λ kind. kind_number kind ≡ word) (λ none. (none.0 ≡ word) × (last_kind < word))

-- the kind word of a schedule of a kind
abbrev pub schedule_kind_number : ScheduleKind → ℕ
schedule_kind_number Market = market
schedule_kind_number PriceBased = price_based
schedule_kind_number Cost = cost

-- a schedule's kind word read: the kind of that number, or none if it is lower or higher than all
abbrev pub ScheduleKindRead : ℕ → Result ScheduleKind NoKind → Type 0
ScheduleKindRead word read =
    MatchResult read (λ kind. schedule_kind_number kind ≡ word)
    (λ none. (none.0 ≡ word) × ((word < market) ⊎ (cost < word)))
