-- The walk of rows beside accounts, by their ids: how many comparisons of a row's id with an account's it makes.
use Rattle.std.specs.Prelude.{ℕ, suc, ◌+◌, ◌≤◌, List, [], ◌∷◌, cond, length, drop, eqb}
use Rattle.ledger.specs.Values.{before}

-- the comparisons of an id with ids in their order, up to the first that equals it, or to their end
unfoldable pub comparisons : ℕ → List ℕ → ℕ
comparisons id [] = 0
comparisons id (x ∷ xs) = suc (cond (eqb x id) 0 (comparisons id xs))

-- the comparisons of a pass: each id is looked for after the one found before it
unfoldable pub pass_comparisons : List ℕ → List ℕ → ℕ
pass_comparisons [] xs = 0
pass_comparisons (id ∷ ids) xs = comparisons id xs + pass_comparisons ids (drop (suc (before id xs)) xs)

-- The budget of a pass: as many comparisons as there are rows and accounts together are enough,
-- whether every row has an account or not
unfoldable pub BudgetSuffices : Type 0
BudgetSuffices = (rows accounts : List ℕ) → pass_comparisons rows accounts ≤ length rows + length accounts
