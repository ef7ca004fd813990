-- Two references of a nest.
use Rattle.std.specs.Prelude.{◌≡◌, ℕ, suc, ◌==◌, if◌then◌else◌, Some, List, [], ◌∷◌, slice_get}
use Rattle.tree.specs.Plain.{Reference}
use Rattle.nest.specs.Plain.{Loop, Nest}
use Rattle.nest.specs.Bodies.{Standing, nest_statements}
use Rattle.dependence_graph.specs.declared.graphs.Place.{Place}
use Rattle.dependence_graph.specs.nest_graph.References.{references_of}

-- how many loops stand round both
abbrev pub common_of : List Loop → List Loop → ℕ
common_of [] ms = 0
common_of (l ∷ ls) [] = 0
common_of (l ∷ ls) (m ∷ ms) = if l.number == m.number then suc (common_of ls ms) else 0

-- the reference in this place of the nest, with its statement
pub record IsReferenceAt (n : Nest) (at : Place) (s : Standing) (r : Reference) : Type 0 where
  pub statement : slice_get (nest_statements n) at.stmt ≡ Some s
  pub reference : slice_get (references_of s) at.at ≡ Some r

-- these have one name
pub record AreReferences (n : Nest) (from to : Place) : Type 0 where
  pub first : Standing
  pub second : Standing
  pub first_reference : Reference
  pub second_reference : Reference
  pub first_is : IsReferenceAt n from first first_reference
  pub second_is : IsReferenceAt n to second second_reference
  pub same_name : first_reference.name ≡ second_reference.name

-- what says how they may depend: their statements, with the loops round each, and what they name
pub record Both : Type 0 where
  pub symbols : List (List ℕ)
  pub first : Standing
  pub second : Standing
  pub first_reference : Reference
  pub second_reference : Reference

abbrev pub both : (n : Nest) (from to : Place) → AreReferences n from to → Both
both n from to refs = record {
  symbols = n.symbols;
  first = refs.first;
  second = refs.second;
  first_reference = refs.first_reference;
  second_reference = refs.second_reference;
}
