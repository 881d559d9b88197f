-- What the code's answers mean.
use Rattle.std.specs.Prelude.{ℕ, ◌≡◌, List, [], ◌++◌, Bool, Result, Ok, Err}
use Rattle.stream.specs.declared.End.{End as EndValue}
use Rattle.stream.specs.declared.End.TheVariants.{Ended, Cut, OverLong}
use Rattle.stream.specs.Stream.{End, Next}
use Rattle.stream.specs.Steps.{Outcome}

-- the end that a value says
unfoldable pub end_in : EndValue → End
end_in Ended = End.ended
end_in Cut = End.cut
end_in OverLong = End.over_long

-- what comes next, by the code's answer and the bytes read after a length
unfoldable pub found_as : {A : Type 0} → Result A EndValue → List ℕ → Next
found_as (Ok a) b = Next.block b []
found_as (Err e) b = Next.stop (end_in e)

-- a step as code takes it: the state, what it puts behind the bytes to print, and whether to go on
pub record StepTaken {S : Type 0} (o : Outcome ℕ S) (state : S) (before after : List ℕ) (on : Bool) : Type 0 where
  pub leaves : state ≡ o.state
  pub puts : after ≡ before ++ o.printed
  pub goes_on : on ≡ o.on
