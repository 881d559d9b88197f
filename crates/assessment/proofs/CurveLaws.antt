-- The walk down the points of a curve to the last one reached, and what the rules say by what is found.
use Prim.Native.Nat.{ℕ, zero, suc, ◌+◌, ◌-◌, ◌*◌, ◌≤◌, ◌<◌, min, max}
use mathlib.Core.Bool.{Bool, true, false, cond}
use mathlib.Core.List.{List, [], ◌∷◌}
use mathlib.Core.Path.{◌≡◌, refl, sym, ap, ◌∙◌}
use native.Mathlib.Omega.{arith}
use lib.ListN.{length, drop}
use lib.Seq.{drop-drop}
use lib.IntN.{ℤ}
use lib.Signed.{le_z, lt_z}
use Rattle.words.specs.Words.{entries}
use Rattle.reading.specs.Interval.{point_bytes, Point, Schedule, Row, point_of, point_at, points_in, row_with}
use Rattle.reading.specs.Values.{row_in, point_in}
use Rattle.reading.specs.declared.rows.Point.{Point as PointValue}
use Rattle.reading.specs.declared.rows.Row.{Row as RowValue}
use Rattle.reading.proofs.Tables.{table_cons}
use Rattle.reading.proofs.RowsLeft.{points_left, points_start, points_turn, points_end}
use Rattle.assessment.specs.Assessment.{
  or_else,
  from_last_reached,
  along_curve,
  last_price,
  minimum_online,
  scheduled_by,
  first_kw,
}
use Rattle.assessment.specs.Values.{LastReached}

-- where no point is reached, the first is not
none_first : (lmp : ℤ) (p : Point) (ps : List Point) → from_last_reached lmp (p ∷ ps) ≡ [] → le_z p.price lmp ≡ false
unfolding from_last_reached or_else
none_first lmp p ps e = by (from_last_reached lmp ps) (le_z p.price lmp) e
  where
    by : (found : List Point) (t : Bool) → or_else found (cond t (p ∷ ps) []) ≡ [] → t ≡ false
    by [] true e = absurd (omega (arith, ap length e))
    by [] false e = refl
    by (q ∷ qs) t e = absurd (omega (arith, ap length e))

-- the walk down n points
module _ (lmp : ℤ) (n : ℕ) (b : List ℕ) where
  -- from point i on, none is reached
  abbrev pub NoneFrom : ℕ → Type 0
  NoneFrom i = from_last_reached lmp (points_left n b i) ≡ []

  -- behind all points none is, as none is left
  pub none_behind : NoneFrom n
  unfolding from_last_reached
  none_behind = rw (points_end n b n (omega arith))

  -- where none is reached after point j, which is read, nor is that point, none is from it on
  pub none_from : (i j : ℕ) (v : PointValue) → i ≡ j + 1 → i ≤ n → NoneFrom i
      → point_in v ≡ point_at b j → le_z v.price lmp ≡ false → NoneFrom j
  unfolding from_last_reached or_else point_in
  none_from i j v after h none is e =
      let e = rw (ap (λ p. p.price) is) at e in
      rw (points_turn n b j (omega arith), ← after, none, e)

  -- where none is reached from point i on, point i is not
  none_at : (i : ℕ) → i < n → NoneFrom i → le_z (point_at b i).price lmp ≡ false
  none_at i h none =
      let here = ap (from_last_reached lmp) (points_turn n b i h) in
      none_first lmp (point_at b i) (points_left n b (i + 1)) (sym here ∙ none)

  -- what is found from point j on is found in the whole curve
  found_whole : (j : ℕ) (p : Point) (ps : List Point) → j ≤ n → from_last_reached lmp (points_left n b j) ≡ p ∷ ps
      → from_last_reached lmp (points_in n b) ≡ p ∷ ps
  unfolding from_last_reached or_else
  found_whole zero p ps h e = ap (from_last_reached lmp) (points_start n b) ∙ e
  found_whole (suc j) p ps h e =
      let next : j + 1 ≡ suc j = omega arith in
      found_whole j p ps (omega arith) (rw (points_turn n b j (omega arith), next, e))

  -- where point j is reached and none after it, it is the last one reached
  pub reached_last : (i j : ℕ) (v : PointValue) → i ≡ j + 1 → i ≤ n → NoneFrom i
      → point_in v ≡ point_at b j → le_z v.price lmp ≡ true → LastReached lmp n b j
  unfolding from_last_reached or_else point_in
  reached_last i j v after h none is e =
      let e = rw (ap (λ p. p.price) is) at e in
      let here = points_turn n b j (omega arith) in
      let found = found_whole j (point_at b j) (points_left n b (j + 1)) (omega arith) (rw (here, ← after, none, e)) in
      let last : points_left n b j ≡ points_in (n - j) (drop (point_bytes * j) b) = unfold points_left points_in in refl in
      record {
        among = omega arith;
        rest = found ∙ sym here ∙ last;
        reached = e;
        next_not_reached = λ more. rw (← after) (none_at i (omega arith) none);
      }

  -- where none is reached from the first on, none is in the whole curve
  pub reached_none : (i : ℕ) → i ≡ 0 → NoneFrom i → from_last_reached lmp (points_in n b) ≡ []
  reached_none i z none = ap (from_last_reached lmp) (points_start n b ∙ ap (points_left n b) (sym z)) ∙ none

-- what is known as long as none is reached
pub ruleset unreached = (none_behind, none_from, reached_none)

-- the points from k on
points_cons : (m k : ℕ) (b : List ℕ)
    → points_in (suc m) (drop (point_bytes * k) b) ≡ point_at b k ∷ points_in m (drop (point_bytes * (k + 1)) b)
unfolding points_in point_at
points_cons m k b = table_cons point_bytes point_of m b k

-- what the curve says, by the last point reached
module _ {lmp : ℤ} {n : ℕ} {b : List ℕ} {i : ℕ} (last : LastReached lmp n b i) where
  -- what is found begins with that point
  found_from : (m : ℕ) → n - i ≡ suc m
      → from_last_reached lmp (points_in n b) ≡ point_at b i ∷ points_in m (drop (point_bytes * (i + 1)) b)
  found_from m e = last.rest ∙ ap (λ k. points_in k (drop (point_bytes * i) b)) e ∙ points_cons m i b

  -- if it is the final one, the curve says its kW
  pub along_last : n ≤ i + 1 → (v : PointValue) → point_in v ≡ point_at b i
      → v.kw ≡ along_curve lmp (from_last_reached lmp (points_in n b))
  unfolding along_curve points_in entries point_in
  along_last final v is =
      let one : n - i ≡ 1 = omega (arith, last.among) in
      ap (λ p. p.kw) is ∙ ap (along_curve lmp) (sym (found_from 0 one))

  -- else it and the next one decide
  pub along_next : i + 1 < n → (v w : PointValue) → point_in v ≡ point_at b i → point_in w ≡ point_at b (i + 1)
      → along_curve lmp (point_in v ∷ point_in w ∷ []) ≡ along_curve lmp (from_last_reached lmp (points_in n b))
  unfolding along_curve
  along_next more v w is next_is =
      let two : n - i ≡ suc (suc (n - i - 2)) = omega arith in
      let next = points_cons (n - i - 2) (i + 1) b in
      let found = found_from (suc (n - i - 2)) two ∙ ap (λ ps. point_at b i ∷ ps) next in
      rw (is, next_is) (ap (along_curve lmp) (sym found))

  -- its kW are those of the first point found
  pub first_reached : (v : PointValue) → point_in v ≡ point_at b i
      → v.kw ≡ first_kw (from_last_reached lmp (points_in n b))
  unfolding first_kw point_in
  first_reached v is =
      let some : n - i ≡ suc (n - i - 1) = omega (arith, last.among) in
      ap (λ p. p.kw) is ∙ ap first_kw (sym (found_from (n - i - 1) some))

-- the price of the last of m + 1 points
last_price_lem : (m : ℕ) (b : List ℕ) → last_price (point_of b) (points_in m (drop point_bytes b)) ≡ (point_at b m).price
unfolding last_price points_in entries point_at
last_price_lem zero b = refl
last_price_lem (suc m) b =
    let next : point_bytes + point_bytes * m ≡ point_bytes * suc m = omega arith in
    let there = drop-drop (point_bytes * m) point_bytes b ∙ ap (λ k. drop k b) next in
    last_price_lem m (drop point_bytes b) ∙ ap (λ c. (point_of c).price) there

-- a row with some points: the rule, by the first price and the last
scheduled_some : (n : ℕ) (b : List ℕ) (r : Row) → 0 < n → scheduled_by (points_in n b) r
    ≡ cond (lt_z r.lmp (point_at b 0).price) (minimum_online r)
    (cond (lt_z (point_at b (n - 1)).price r.lmp) r.maximum
    (min (max (along_curve r.lmp (from_last_reached r.lmp (points_in n b))) (minimum_online r)) r.maximum))
unfolding scheduled_by points_in entries point_at
scheduled_some zero b r h = absurd (omega arith)
scheduled_some (suc m) b r h = let before : suc m - 1 ≡ m = omega arith in rw (before, ← last_price_lem m b)

-- of a row, whatever its schedules, the LMP is below the first price, above the last, or neither
module _ (n : ℕ) (b : List ℕ) (row : RowValue) (schedules : List Schedule) (some : 0 < n)
    (first : PointValue) (is_first : point_in first ≡ point_at b 0) where
  -- the row
  abbrev r : Row
  r = row_with (row_in row) schedules

  -- with an LMP below the first price, scheduled is the minimum if online, else 0
  pub scheduled_below : lt_z r.lmp first.price ≡ true → minimum_online r ≡ scheduled_by (points_in n b) r
  unfolding point_in
  scheduled_below e = rw (scheduled_some n b r some, ← is_first, e)

  module _ (last : PointValue) (is_last : point_in last ≡ point_at b (n - 1))
      (reached : lt_z r.lmp first.price ≡ false) where
    -- with an LMP not below the first price and above the last, scheduled is the emergency maximum
    pub scheduled_above : lt_z last.price r.lmp ≡ true → r.maximum ≡ scheduled_by (points_in n b) r
    unfolding point_in
    scheduled_above e = rw (scheduled_some n b r some, ← is_first, reached, ← is_last, e)

    -- with an LMP in between: along the curve, raised to the minimum if online, cut to the maximum
    pub scheduled_along : lt_z last.price r.lmp ≡ false
        → (kw least : ℕ) → kw ≡ along_curve r.lmp (from_last_reached r.lmp (points_in n b)) → least ≡ minimum_online r
        → min (max kw least) r.maximum ≡ scheduled_by (points_in n b) r
    unfolding point_in
    scheduled_along e kw least is_kw is_least =
        rw (scheduled_some n b r some, ← is_first, reached, ← is_last, e, is_kw, is_least)
