-- The laws of what the code answers of a stream: an error is an end, where the stream stops, and else a block is next.
use mathlib.Core.Path.{◌≡◌, refl, sym}
use mathlib.Core.List.{List, []}
use mathlib.Core.Bool.{true, false}
use Rattle.std.specs.Prelude.{ℕ, Result, Ok, Err, is_err}
use Rattle.words.proofs.Ints.{never}
use Rattle.stream.specs.declared.End.{End as EndValue}
use Rattle.stream.specs.Stream.{End, Next, stops}
use Rattle.stream.specs.Code.{end_in, found_as}

module _ {A : Type 0} where
  -- the stream stops just where the answer is an error, whatever bytes were read
  pub found_stops : (found : Result A EndValue) (b : List ℕ) → is_err found ≡ stops (found_as found b)
  unfolding found_as stops
  found_stops (Ok a) b = refl
  found_stops (Err e) b = refl

  -- where a stream stops it stops at an end, whatever bytes were read
  pub stop_at : (found : Result A EndValue) → stops (found_as found []) ≡ true
      → (e : End) × ((b : List ℕ) → found_as found b ≡ Next.stop e)
  unfolding found_as stops
  stop_at (Ok a) h = never h
  stop_at (Err e) h = (end_in e, λ b. refl)

  -- and where it does not, a block is next
  pub found_block : (found : Result A EndValue) (b : List ℕ) → stops (found_as found []) ≡ false
      → found_as found b ≡ Next.block b []
  unfolding found_as stops
  found_block (Ok a) b h = refl
  found_block (Err e) b h = never (sym h)
