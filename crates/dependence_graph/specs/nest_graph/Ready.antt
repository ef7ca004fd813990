-- The nests that are tested: each loop goes from 1 by 1 to a linear trip, and what is written and read are scalars and
-- elements of arrays.
use Rattle.std.specs.Prelude.{◌≡◌, ℕ, suc, ◌≤◌, ◌^◌, pos, ◌≤ℤ◌, IsSomeAnd, All, List, [], ◌∷◌, length, map}
use Rattle.subscripts.specs.Shapes.{IsForm}
use Rattle.tree.specs.Plain.{Only, Section, Subscripts, no_subscripts, subscript, Reference}
use Rattle.components.specs.Lists.{Distinct}
use Rattle.dependence_graph.specs.declared.graphs.Place.{Place}
use Rattle.nest.specs.declared.parts.Trip.{Trip}
use Rattle.nest.specs.Plain.{Loop, Nest}
use Rattle.nest.specs.Bodies.{Standing, nest_loops, nest_statements}
use Rattle.dependence_graph.specs.nest_graph.References.{references_of}
use Rattle.dependence_graph.specs.nest_graph.Tested.{IsReferenceAt}

-- ---- trips

-- a trip of a loop with so many loops round it
pub record IsTripIn (depth : ℕ) (t : Trip) : Type 0 where
  pub top : IsForm depth t.top
  pub positive : pos 1 ≤ℤ t.by

abbrev pub HasTrip : ℕ → Loop → Type 0
HasTrip depth l = IsSomeAnd l.trip (IsTripIn depth)

-- loops from the outside in, with so many round all of them
abbrev pub HaveTrips : ℕ → List Loop → Type 0
HaveTrips depth [] = Unit {0}
HaveTrips depth (l ∷ ls) = HasTrip depth l × HaveTrips (suc depth) ls

-- ---- references

-- no subscript is a section
abbrev pub AreElements : Subscripts → Type 0
AreElements no_subscripts = Unit {0}
AreElements (subscript (Only e) ss) = AreElements ss
AreElements (subscript (Section a b s) ss) = ⊥

abbrev pub subscript_count : Subscripts → ℕ
subscript_count no_subscripts = 0
subscript_count (subscript s ss) = suc (subscript_count ss)

-- an element of an array of at most seven dimensions, or a scalar
pub record IsElement (r : Reference) : Type 0 where
  pub elements : AreElements r.subscripts
  pub dimensions : subscript_count r.subscripts ≤ 7

pub record IsReadyStatement (s : Standing) : Type 0 where
  pub depth : length s.loops ≤ 7
  pub trips : HaveTrips 0 s.loops
  pub references : All IsElement (references_of s)

-- two references of one name have as many subscripts
abbrev pub HaveEqualRank : Nest → Type 0
HaveEqualRank n =
    (p q : Place) (s t : Standing) (r u : Reference) → IsReferenceAt n p s r → IsReferenceAt n q t u → r.name ≡ u.name
    → subscript_count r.subscripts ≡ subscript_count u.subscripts

-- ---- nests

pub record IsReady (n : Nest) : Type 0 where
  pub symbols : length n.symbols ≤ 2 ^ 16
  pub statements : All IsReadyStatement (nest_statements n)
  pub ranks : HaveEqualRank n
  pub loops : Distinct (map (λ l. l.number) (nest_loops n))
