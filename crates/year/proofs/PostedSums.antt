-- What posting a file's rows adds to the accounts.
use Prim.Native.Nat.{ℕ, ◌+◌, max}
use mathlib.Core.Path.{◌≡◌, refl}
use mathlib.Core.List.{List, [], ◌∷◌, map}
use mathlib.Core.Bool.{Bool, true, false, cond}
use native.Mathlib.Omega.{arith}
use lib.Dec.{eqb}
use Rattle.words.specs.Lists.{sum}
use Rattle.assessment.specs.Assessment.{Account, raised, added, ChargedRow, Assessed, credit}
use Rattle.settling.specs.Settling.{posted, posted_all}
use Rattle.year.specs.Year.{GivenRow, sum_of_plant, largest_of_plant}
use Rattle.year.proofs.Given.{given_of}

-- the account b is a with a commitment of so many kW, a charge and a credit added
pub record Added (a : Account) (kw charge credit : ℕ) (b : Account) : Type 0 where
  pub id : b.id ≡ a.id
  pub largest : b.largest ≡ max a.largest kw
  pub charged : b.charged ≡ a.charged + charge
  pub credited : b.credited ≡ a.credited + credit

-- an account after rows of an interval has the sums over its own rows added
pub posted_all_lem : (v : Assessed) (cs : List ChargedRow) (a : Account)
    → let gs = map (given_of v) cs in
    Added a (largest_of_plant a.id gs) (sum_of_plant a.id (λ g. g.charge) gs)
    (sum_of_plant a.id (λ g. g.credit) gs) (posted_all v cs a)
unfolding posted_all posted raised added given_of sum_of_plant sum largest_of_plant
posted_all_lem v [] a = record { id = refl; largest = omega arith; charged = omega arith; credited = omega arith }
posted_all_lem v (c ∷ cs) a = by (eqb c.row.id a.id) (posted_all_lem v cs)
  where
    gs : List GivenRow
    gs = map (given_of v) cs

    more : Account
    more = record { id = a.id; largest = max a.largest c.row.committed; charged = a.charged + c.charge; credited = a.credited + credit v c }

    by : (t : Bool)
        → ((b : Account) → Added b (largest_of_plant b.id gs) (sum_of_plant b.id (λ g. g.charge) gs)
        (sum_of_plant b.id (λ g. g.credit) gs) (posted_all v cs b))
        → Added a (max (cond t c.row.committed 0) (largest_of_plant a.id gs))
        (cond t c.charge 0 + sum_of_plant a.id (λ g. g.charge) gs)
        (cond t (credit v c) 0 + sum_of_plant a.id (λ g. g.credit) gs) (posted_all v cs (cond t more a))
    by true below =
        let h = below more in
        record { id = h.id; largest = omega (arith, h.largest); charged = omega (arith, h.charged); credited = omega (arith, h.credited) }
    by false below =
        let h = below a in
        record { id = h.id; largest = omega (arith, h.largest); charged = omega (arith, h.charged); credited = omega (arith, h.credited) }
