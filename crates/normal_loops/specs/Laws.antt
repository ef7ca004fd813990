-- What each normalised nest has.
use Rattle.std.specs.Prelude.{◌≡◌, Some, pos, IsSome, All}
use Rattle.tree.specs.Plain.{Number}
use Rattle.nest.specs.Bodies.{nest_loops}
use Rattle.nest.specs.Plain.{Loop, Nest}
use Rattle.normal_loops.specs.Normalised.{normalised}

-- a loop from 1 by 1, with its trip
pub record CountsByOne (l : Loop) : Type 0 where
  pub first : l.first ≡ Number (pos 1)
  pub step : l.step ≡ pos 1
  pub trip : IsSome l.trip

-- each of its loops counts so
abbrev pub NormalisedCountsByOne : Type 0
NormalisedCountsByOne = (n m : Nest) → normalised n ≡ Some m → All CountsByOne (nest_loops m)
