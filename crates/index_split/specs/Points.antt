-- The points at which the loop of a nest is cut, so that no dependence of a weak-zero or of a crossing pair stays
-- within a piece (Allen and Kennedy, "Optimizing Compilers for Modern Architectures", sections 5.8 and 5.9; Goff,
-- Kennedy and Tseng, "Practical Dependence Testing", PLDI 1991, section 4.2).
use Rattle.std.specs.Prelude.{◌≡◌, ◌↔◌, ◌⊎◌, ℕ, suc, ◌*◌, ◌/◌, ◌≤◌, ◌<◌, ℤ, pos, ◌+ℤ◌, ◌-ℤ◌, ◌*ℤ◌, int_div, IsTrue}
use Rattle.std.specs.Prelude.{Bool, not, ◌||◌, if◌then◌else◌, Option, Some, None, List, [], ◌∷◌, ◌++◌, map}
use Rattle.std.specs.Prelude.{slice_index_or}
use Rattle.std.specs.Ordering.{int_eq}
use Rattle.std.specs.List.Sorted.{IsStrictlyIncreasing}
use Rattle.components.specs.Lists.{IsMember}
use Rattle.dependence_graph.specs.declared.nest_references.occurrences.Occurrence.{Occurrence}
use Rattle.dependence_graph.specs.nest_graph.Ready.{IsTripIn}
use Rattle.dependence_graph.specs.nest_graph.Trips.{has_constant_top}
use Rattle.dependence_graph.specs.nest_references.Occurrences.{AreOccurrences}
use Rattle.nest.specs.Plain.{Guarded, Loop, Nest, Run, Turns, parts}
use Rattle.nest.specs.declared.parts.Trip.{Trip}
use Rattle.subscripts.specs.declared.affine.Affine.{Affine}
use Rattle.index_split.specs.declared.points.Sides.{Sides}

-- ---- loops that may be cut

-- so often turns a loop from 1 by 1, whatever the symbols are
pub record TurnsAlways (l : Loop) (t : ℕ) : Type 0 where
  pub trip : Trip
  pub is : l.trip ≡ Some trip
  pub linear : IsTripIn 0 trip
  pub constant : IsTrue (has_constant_top trip)
  pub number : int_div trip.top.constant trip.by ≡ pos t

-- one loop round assignments alone, which turns t times, from 2 to 2147483646
pub record IsConsidered (n : Nest) (t : ℕ) : Type 0 where
  pub loop : Loop
  pub statements : List Guarded
  pub body : n.body ≡ Turns loop (parts (map Run statements))
  pub turns : TurnsAlways loop t
  pub some : 2 ≤ t
  pub few : t ≤ 2147483646

-- ---- pairs of subscripts

-- the coefficient of the one loop
abbrev pub front : Affine → ℤ
front a = slice_index_or a.loops 0 (pos 0)

-- the loop stands in one of the two subscripts
abbrev pub has_loop : Sides → Bool
has_loop s = not (int_eq (front s.first) (pos 0)) || not (int_eq (front s.second) (pos 0))

abbrev pub with_loop : Sides → List Sides
with_loop s = if has_loop s then s ∷ [] else []

-- the subscripts in one place of two references, where both are linear and the loop stands in one of them
abbrev pub paired : Option Affine → Option Affine → List Sides
paired None g = []
paired (Some f) None = []
paired (Some f) (Some g) = with_loop (record { first = f; second = g })

-- those of all places; a pair is separable where it is the only one
abbrev pub pairs_of : List (Option Affine) → List (Option Affine) → List Sides
pairs_of [] gs = []
pairs_of (f ∷ fs) [] = []
pairs_of (f ∷ fs) (g ∷ gs) = paired f g ++ pairs_of fs gs

-- the one side is equal to the other where the loop adds to it what it adds in n turns, and nothing to the other
abbrev pub MeetsAfter : Affine → Affine → ℕ → Type 0
MeetsAfter a b n = pos n *ℤ front a ≡ b.constant -ℤ a.constant

-- before and behind the iteration in which the side with the loop meets the one without
pub record IsZeroPoint (t : ℕ) (a b : Affine) (x : ℕ) : Type 0 where
  pub without : front b ≡ pos 0
  pub at : ℕ
  pub meets : MeetsAfter a b at
  pub from : 1 ≤ at
  pub to : at ≤ t
  pub is : (x ≡ at) ⊎ (suc x ≡ at)

-- behind half the sum of both iterations, which is the same sum wherever the sides are equal
pub record IsCrossingPoint (t : ℕ) (a b : Affine) (x : ℕ) : Type 0 where
  pub opposite : front a +ℤ front b ≡ pos 0
  pub sum : ℕ
  pub meets : MeetsAfter a b sum
  pub from : 2 ≤ sum
  pub to : sum ≤ 2 * t
  pub is : x ≡ sum / 2

-- of a weak-zero pair, with the loop on either side, or of a crossing one
abbrev pub IsPoint : ℕ → Sides → ℕ → Type 0
IsPoint t s x =
    IsZeroPoint t s.first s.second x ⊎ (IsZeroPoint t s.second s.first x ⊎ IsCrossingPoint t s.first s.second x)

-- points from 1 to t - 1 alone
pub record IsWithin (t : ℕ) (P : ℕ → Type 0) (x : ℕ) : Type 0 where
  pub holds : P x
  pub from : 1 ≤ x
  pub to : x < t

-- the symbols of the pair cancel
pub record GivesPoint (t : ℕ) (s : Sides) (x : ℕ) : Type 0 where
  pub symbols : s.first.syms ≡ s.second.syms
  pub point : IsWithin t (IsPoint t s) x

-- ---- references

-- two references of one name, one of them written, with a separable pair that gives the point
pub record CoupleGives (t : ℕ) (o u : Occurrence) (x : ℕ) : Type 0 where
  pub name : o.name ≡ u.name
  pub written : (o.place.at ≡ 0) ⊎ (u.place.at ≡ 0)
  pub pair : Sides
  pub separable : pairs_of o.forms u.forms ≡ pair ∷ []
  pub gives : GivesPoint t pair x

-- some two of these
pub record IsPointAmong (os us : List Occurrence) (t x : ℕ) : Type 0 where
  pub first : Occurrence
  pub second : Occurrence
  pub first_in : IsMember first os
  pub second_in : IsMember second us
  pub gives : CoupleGives t first second x

-- the points that the references of the nest give, in rising order; none where it isn't considered
pub record AreCutPoints (n : Nest) (points : List ℕ) : Type 0 where
  pub references : List Occurrence
  pub are : AreOccurrences n references
  pub rising : IsStrictlyIncreasing points
  pub each : (x : ℕ) → IsMember x points ↔ ((t : ℕ) × IsConsidered n t × IsPointAmong references references t x)
