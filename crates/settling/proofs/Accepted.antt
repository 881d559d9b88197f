-- What is known of a ledger, a file and a result buffer where no ground of settling applies.
use Prim.Native.Nat.{ℕ, ◌≤◌}
use mathlib.Core.Path.{◌≡◌, refl, sym, ◌∙◌}
use mathlib.Core.List.{List, map, Memᴰ}
use mathlib.Core.Bool.{true, false, not}
use native.Mathlib.Omega.{arith}
use lib.ListN.{length}
use lib.Dec.{eqb}
use Rattle.words.specs.Lists.{any, rises}
use Rattle.words.specs.Grounds.{answered}
use Rattle.words.proofs.Tests.{facts}
use Rattle.words.proofs.Lists.{none_passes}
use Rattle.words.proofs.Grounds.{none_applies}
use Rattle.reading.specs.Interval.{most_rows, Row, Header, header_of, rows_of, not_a_file, row_grounds}
use Rattle.reading.specs.Values.{terms_in, header_in}
use Rattle.reading.specs.declared.header.Header.{Header as HeaderValue}
use Rattle.reading.proofs.Bounds.{HeaderIn, header_in_hold, RowIn}
use Rattle.reading.proofs.Facts.{header_read, length_tabled}
use Rattle.reading.proofs.SoundRows.{rows_sound}
use Rattle.assessment.specs.Assessment.{most_cents, pool}
use Rattle.ledger.specs.Ledger.{Standing, standing_of, Ledger, ledger_of, ids_in, not_a_ledger}
use Rattle.ledger.specs.Values.{standing_in}
use Rattle.ledger.specs.declared.layout.Standing.{Standing as StandingValue}
use Rattle.ledger.proofs.Sound.{ground_zero, LedgerIn, ledger_in, ledger_read}
use Rattle.settling.specs.Settling.{
  result_bytes,
  assessed_file,
  ids_do_not_rise,
  id_unknown,
  row_ids_unknown,
  pool_too_large,
  later_grounds,
  grounds_before_pool,
  settling_grounds,
  SettlingAnswer,
  settling,
}
use Rattle.settling.specs.Values.{Passed}
use Rattle.settling.proofs.SettlingTests.{same_days, unrefused, passed, none_before, before_later}

-- the value that says what a ledger's standing does
abbrev pub standing_said : Standing → StandingValue
standing_said s = record {
  terms = record { net_cone = s.terms.net_cone; days = s.terms.days; year = s.terms.year };
  earliest = s.earliest;
  carried = record { 0 = s.carried };
  accounts = s.account_count;
}

-- the value that says what a header does
abbrev pub header_said : Header → HeaderValue
header_said h = record {
  format = h.format;
  interval = h.interval;
  net_cone = h.net_cone;
  days = h.days;
  region_wide = h.region_wide;
  imports = h.imports;
  rows = h.row_count;
  rows_at = h.rows_offset;
  points = h.point_count;
  points_at = h.points_offset;
  schedules = h.schedule_count;
  schedules_at = h.schedules_offset;
}

-- a ledger, a file and a result buffer that settling accepts
pub record Accepted (ledger file result : List ℕ) : Type 0 where
  pub ledger_holds : not_a_ledger ledger ≡ false
  pub ledger_is : LedgerIn (ledger_of ledger)
  pub passed : Passed ledger (standing_said (standing_of ledger)) file (header_said (header_of file))
  pub header : HeaderIn (header_of file)
  pub days : (header_of file).days ≡ (ledger_of ledger).terms.days
  pub rows_few : length (rows_of file) ≤ most_rows
  pub ids_rise : rises (map (λ r. r.id) (rows_of file)) ≡ true
  pub ids_known : (r : Row) → Memᴰ r (rows_of file) → any (λ id. eqb id r.id) (ids_in (ledger_of ledger)) ≡ true
  pub rows : (r : Row) → Memᴰ r (rows_of file) → RowIn r
  pub room : result_bytes (header_of file).row_count ≤ length result
  pub pool : pool (assessed_file ledger file) ≤ most_cents

-- rows that ground 12 does not refuse rise by id
rows_rise : (l : Ledger) (rs : List Row) → row_ids_unknown l rs ≡ false → rises (map (λ r. r.id) rs) ≡ true
unfolding row_ids_unknown ids_do_not_rise
rows_rise l rs e = search facts

-- each of the rows that ground 12 does not refuse has an account of its id
rows_known : (l : Ledger) (rs : List Row) → row_ids_unknown l rs ≡ false → (r : Row) → Memᴰ r rs
    → any (λ id. eqb id r.id) (ids_in l) ≡ true
unfolding row_ids_unknown id_unknown
rows_known l rs e r m =
    let all : any (λ r. not (any (λ id. eqb id r.id) (ids_in l))) rs ≡ false = search facts in
    let one = none_passes (λ r. not (any (λ id. eqb id r.id) (ids_in l))) m all in
    search facts

-- where a call of settling answers 0, none of its grounds applies
pub settling_none : (ledger file result : List ℕ) → (settling ledger file result).refusal ≡ 0
    → answered (settling_grounds ledger file result) ≡ 0
unfolding settling
settling_none ledger file result e =
    ground_zero {A = SettlingAnswer} (answered (settling_grounds ledger file result)) (λ a. a.refusal) _ _ refl e

-- what no ground of settling refuses: the ledger, the file and the pool
record NotRefused (ledger file : List ℕ) : Type 0 where
  ledger_holds : not_a_ledger ledger ≡ false
  file_holds : not_a_file file ≡ false
  pool : pool (assessed_file ledger file) ≤ most_cents

-- where a call of settling answers 0, it refuses neither of them
not_refused : (ledger file result : List ℕ) → (settling ledger file result).refusal ≡ 0 → NotRefused ledger file
unfolding settling_grounds grounds_before_pool later_grounds row_grounds any pool_too_large
not_refused ledger file result e =
    let none = none_applies (settling_grounds ledger file result) refl (settling_none ledger file result e) in
    record { ledger_holds = search facts depth 15; file_holds = search facts depth 15; pool = search facts depth 15 }

-- values of a ledger and a file that no ground before the pool refuses are as settling relies on
said_passed : (ledger file result : List ℕ) → not_a_ledger ledger ≡ false → not_a_file file ≡ false
    → answered (later_grounds ledger file result) ≡ 0
    → Passed ledger (standing_said (standing_of ledger)) file (header_said (header_of file))
unfolding standing_in header_in terms_in
said_passed ledger file result e₆ e₇ none =
    passed ledger file result (ledger_read ledger _ e₆ refl) (header_read e₇ refl) none

-- where a call of settling answers 0, ledger, file and result buffer are as it accepts them
pub accepted : (ledger file result : List ℕ) → (settling ledger file result).refusal ≡ 0 → Accepted ledger file result
accepted ledger file result e =
    let n = not_refused ledger file result e in
    let later = before_later ledger file result n.ledger_holds n.file_holds in
    let none = sym later ∙ none_before ledger file result e in
    let u = unrefused ledger file result none in
    let p = said_passed ledger file result n.ledger_holds n.file_holds none in
    record {
      ledger_holds = n.ledger_holds;
      ledger_is = ledger_in ledger n.ledger_holds;
      passed = p;
      header = header_in_hold (header_of file) u.header;
      days = same_days (ledger_of ledger).terms (header_of file) u.terms;
      rows_few = omega (arith, length_tabled p.tabled, p.tabled.rows_few);
      ids_rise = rows_rise (ledger_of ledger) (rows_of file) p.known;
      ids_known = rows_known (ledger_of ledger) (rows_of file) p.known;
      rows = rows_sound p.scanned;
      room = u.room;
      pool = n.pool;
    }
