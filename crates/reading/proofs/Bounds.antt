-- What is known of terms, ids, a header, a row and a point that no ground refuses.
use Prim.Native.Nat.{ℕ, ◌*◌, ◌<◌, ◌≤◌}
use mathlib.Core.Path.{◌≡◌}
use mathlib.Core.Logic.{⊎_elim}
use mathlib.Core.List.{List, map, Memᴰ}
use mathlib.Core.Bool.{true, false, ◌||◌}
use native.Mathlib.Omega.{arith}
use lib.ListN.{length, drop}
use lib.IntN.{nat_abs}
use lib.Dec.{eqb}
use borrow.Author.Tests.{eqb-true}
use Rattle.words.specs.Lists.{any, rises_above, rises}
use Rattle.words.specs.Words.{word32}
use Rattle.words.specs.Grounds.{outside, beyond}
use Rattle.words.proofs.Tests.{facts, either, not_outside}
use Rattle.words.proofs.Lists.{rises_from_zero}
use Rattle.words.proofs.Words.{length_entries}
use Rattle.reading.specs.Block.{
  most_net_cone,
  leap_year,
  most_ids,
  id_bytes,
  Terms,
  block_words,
  block_of,
  terms_outside,
  ids_misplaced,
  ids_out_of_order,
}
use Rattle.reading.specs.Interval.{last_kind, intervals_per_day, most_imports, most_kilowatts, most_price, Header, RowWords, Schedule, Row, row_words_of, schedules_named, schedule_of, row_with, row_of, rows_of, header_outside, row_outside}
use Rattle.reading.proofs.Tables.{each_mapped}
use Rattle.reading.proofs.RowsLeft.{rows_of_words}

-- terms that ground 2 does not refuse
pub record TermsIn (t : Terms) : Type 0 where
  pub net_cone : t.net_cone ≤ most_net_cone
  pub days : t.days ≤ leap_year

-- terms that ground 2 does not refuse keep the bounds of Net CONE and days
pub terms_in_lem : (t : Terms) → terms_outside t ≡ false → TermsIn t
unfolding terms_outside
terms_in_lem t e =
    let range : outside 1 most_net_cone t.net_cone ≡ false = search facts in
    let days : (eqb t.days 365 || eqb t.days 366) ≡ true = search facts in
    let common : eqb t.days 365 ≡ true → t.days ≤ leap_year = λ h. omega (arith, eqb-true t.days 365 h) in
    let leap : eqb t.days 366 ≡ true → t.days ≤ leap_year = λ h. omega (arith, eqb-true t.days 366 h) in
    record {
      net_cone = (not_outside 1 most_net_cone t.net_cone range).1;
      days = ⊎_elim common leap (either (eqb t.days 365) (eqb t.days 366) days);
    }

-- a number of ids that ground 3 does not refuse
pub ids_few : (b : List ℕ) → ids_misplaced b ≡ false → (1 ≤ (block_words b).id_count) × ((block_words b).id_count ≤ most_ids)
unfolding ids_misplaced
ids_few b e =
    let range : outside 1 most_ids (block_words b).id_count ≡ false = search facts in
    not_outside 1 most_ids (block_words b).id_count range

-- a block read from bytes has as many ids as word 3 says
pub length_ids : (b : List ℕ) → length (block_of b).ids ≡ (block_words b).id_count
unfolding block_of
length_ids b = length_entries id_bytes (λ id. word32 id 0) (block_words b).id_count (drop (block_words b).ids_offset b)

-- ids that ground 4 does not refuse
pub ids_rise : (is : List ℕ) → ids_out_of_order is ≡ false → rises_above 0 is ≡ true
unfolding ids_out_of_order
ids_rise is e =
    let some : any (λ id. eqb id 0) is ≡ false = search facts in
    let order : rises is ≡ true = search facts in
    rises_from_zero is some order

-- a header that ground 9 does not refuse
pub record HeaderIn (h : Header) : Type 0 where
  pub interval : h.interval < intervals_per_day * h.days
  pub region_wide : h.region_wide ≤ 1
  pub imports : nat_abs h.imports ≤ most_imports

-- a header that ground 9 does not refuse keeps the bounds of its interval, region-wide word and net imports
pub header_in_hold : (h : Header) → header_outside h ≡ false → HeaderIn h
unfolding header_outside beyond
header_in_hold h e = record { interval = search facts; region_wide = search facts; imports = search facts }

-- a row that ground 13 does not refuse
pub record RowIn (r : Row) : Type 0 where
  pub kind : r.kind ≤ last_kind
  pub committed : r.committed ≤ most_kilowatts
  pub owned : r.owned ≤ most_kilowatts
  pub metered : nat_abs r.metered ≤ most_kilowatts
  pub adjustment : nat_abs r.adjustment ≤ most_kilowatts
  pub planned : r.planned ≤ most_kilowatts
  pub forced : r.forced ≤ most_kilowatts
  pub maximum : r.maximum ≤ most_kilowatts
  pub minimum : r.minimum ≤ r.maximum
  pub online : r.online ≤ 1
  pub lmp : nat_abs r.lmp ≤ most_price

-- a row whose words ground 13 does not refuse keeps their bounds, whatever its schedules
pub row_in_lem : (w : RowWords) (schedules : List Schedule) → row_outside w ≡ false → RowIn (row_with w schedules)
unfolding row_outside row_with any beyond
row_in_lem w schedules e = record {
  kind = search facts depth 20;
  committed = search facts depth 20;
  owned = search facts depth 20;
  metered = search facts depth 20;
  adjustment = search facts depth 20;
  planned = search facts depth 20;
  forced = search facts depth 20;
  maximum = search facts depth 20;
  minimum = search facts depth 20;
  online = search facts depth 20;
  lmp = search facts depth 20;
}

-- where ground 13 refuses none of a file's rows, each keeps the bounds
pub rows_in : (f : List ℕ) → any row_outside (row_words_of f) ≡ false → (r : Row) → Memᴰ r (rows_of f) → RowIn r
unfolding row_of
rows_in f e r m =
    each_mapped row_outside (row_of f) RowIn (λ w. row_in_lem w (map (schedule_of f) (schedules_named f w))) (row_words_of f) e r
    (rw rows_of_words at m)
