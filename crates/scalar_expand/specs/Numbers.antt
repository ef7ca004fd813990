-- The numbers of trips and of extents, where the symbols have these values.
use Rattle.std.specs.Prelude.{ℕ, ℤ, pos, negsuc, ◌≤ℤ◌, List, [], ◌∷◌, ◌++◌, length, map, reverse, slice_index_or}
use Rattle.nest.specs.Plain.{Loop, Nest}
use Rattle.nest.specs.declared.parts.Trip.{Trip}
use Rattle.last_values.specs.normal_forms.Numbers.{trip_number}
use Rattle.scalar_expand.specs.Laws.{Cover, End, Steady}
use Rattle.scalar_expand.specs.Privates.{private_scalars, trip_or_none}
use Rattle.scalar_expand.specs.declared.privates.Private.{Private}
use Rattle.scalar_expand.specs.declared.privates.RoundLoop.{RoundLoop}

-- the numbers of the loops round a place; 0 for further ones
abbrev pub at_loops : List ℤ → ℕ → ℤ
at_loops zs k = slice_index_or zs k (pos 0)

-- no turn where the number is negative
abbrev pub turns_to : ℤ → ℕ
turns_to (pos k) = k
turns_to (negsuc k) = 0

-- n is how many symbols there are
module _ (n : ℕ) (values : ℕ → ℤ) where
  abbrev pub number_under : List ℤ → Trip → ℤ
  number_under zs t = trip_number n (at_loops zs) values t

  -- how many turns a loop has where the loops round it are at these iterations
  abbrev pub trip_at : List ℕ → Loop → ℕ
  trip_at is l = turns_to (number_under (map pos is) (trip_or_none l.trip))

  -- the numbers of extents, from the outside in, behind these numbers
  abbrev pub numbers_under : List ℤ → List Trip → List ℤ
  numbers_under zs [] = zs
  numbers_under zs (t ∷ ts) = numbers_under (zs ++ number_under zs t ∷ []) ts

  abbrev pub from_place : ℤ → ℤ → ℤ × ℤ
  from_place first z = (first, z)

  -- what an array is allocated with: from this place to its extents, that of the innermost loop first
  abbrev pub limits_of : ℤ → Private → List (ℤ × ℤ)
  limits_of first p = reverse (map (from_place first) (numbers_under [] p.extents))

  -- the last iterations of loops, from the outside in, behind these
  abbrev pub ends_under : List ℕ → List RoundLoop → List ℕ
  ends_under done [] = []
  ends_under done (l ∷ ls) =
      turns_to (number_under (map pos done) l.trip)
      ∷ ends_under (done ++ turns_to (number_under (map pos done) l.trip) ∷ []) ls

  abbrev pub ends_of : Private → List ℕ
  ends_of p = ends_under [] p.loops

-- Whatever the symbols' values are, the array of a private scalar has an element for each iteration of the loops round
-- the scalar, also where an inner loop's trip has the variables of outer ones, and with elements in front too
abbrev pub ExtentsCover : Type 0
ExtentsCover = (m : Nest) (values : ℕ → ℤ) (first : ℤ) → first ≤ℤ pos 1
    → Cover (private_scalars m) (limits_of (length m.symbols) values first) (trip_at (length m.symbols) values)

-- These are the last iterations, and a trip without counters is the same in all turns
abbrev pub TripsEnd : Type 0
TripsEnd = (m : Nest) (values : ℕ → ℤ)
    → End (private_scalars m) (ends_of (length m.symbols) values) (trip_at (length m.symbols) values)
    × Steady (private_scalars m) (trip_at (length m.symbols) values)
