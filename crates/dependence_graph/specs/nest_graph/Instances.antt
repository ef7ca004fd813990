-- The instances of a nest: each statement at each iteration of its loops. A symbol may have any whole number as its
-- value; `values` has them by their places among the nest's symbols.
use Rattle.std.specs.Prelude.{◌≡◌, ℕ, ℤ, pos, ◌≤ℤ◌, int_div, Option, Some, None, List, [], ◌∷◌, ◌++◌, slice_get}
use Rattle.subscripts.specs.Forms.{value_at}
use Rattle.nest.specs.declared.parts.Trip.{Trip}
use Rattle.nest.specs.Plain.{Loop, Nest}
use Rattle.nest.specs.Bodies.{Standing, nest_statements}

-- how often a loop turns at an iteration of the loops round it; not at all where this is negative
abbrev pub turns_at : Trip → (ℕ → ℤ) → List ℤ → ℤ
turns_at t values outer = int_div (value_at t.top values outer) t.by

abbrev pub IsWithinTrip : Option Trip → (ℕ → ℤ) → List ℤ → ℤ → Type 0
IsWithinTrip None values outer i = ⊥
IsWithinTrip (Some t) values outer i = (pos 1 ≤ℤ i) × (i ≤ℤ turns_at t values outer)

-- an iteration of each loop, from the outside in
abbrev pub AreTurns : (ℕ → ℤ) → List ℤ → List Loop → List ℤ → Type 0
AreTurns values outer [] [] = Unit {0}
AreTurns values outer [] (i ∷ x) = ⊥
AreTurns values outer (l ∷ ls) [] = ⊥
AreTurns values outer (l ∷ ls) (i ∷ x) = IsWithinTrip l.trip values outer i × AreTurns values (outer ++ i ∷ []) ls x

-- of the statement with this place
pub record IsInstance (n : Nest) (values : ℕ → ℤ) (place : ℕ) (x : List ℤ) : Type 0 where
  pub standing : Standing
  pub is_at : slice_get (nest_statements n) place ≡ Some standing
  pub turns : AreTurns values [] standing.loops x
