-- The references of a nest, with what is known of each.
use Rattle.std.specs.Prelude.{◌≡◌, ℕ, suc, All, IfSome, Option, None, List, [], ◌∷◌, ◌++◌, length, map}
use Rattle.tree.specs.Plain.{Only, Section, Subscript, Subscripts, no_subscripts, subscript, Reference}
use Rattle.subscripts.specs.declared.affine.Affine.{Affine}
use Rattle.linear_forms.specs.Linear.{form_of}
use Rattle.linear_forms.specs.Affines.{IsFound}
use Rattle.components.specs.Lists.{IsMember, Pairwise}
use Rattle.dependence_graph.specs.declared.graphs.Place.{Place}
use Rattle.nest.specs.Plain.{Loop, Nest}
use Rattle.nest.specs.Bodies.{Standing}
use Rattle.dependence_graph.specs.nest_graph.Graph.{IsEarlierPlace}
use Rattle.dependence_graph.specs.nest_graph.References.{references_of, variables_round}
use Rattle.dependence_graph.specs.nest_graph.Spans.{spans_of}
use Rattle.dependence_graph.specs.nest_graph.Tested.{IsReferenceAt}
use Rattle.dependence_graph.specs.declared.nest_references.occurrences.Occurrence.{Occurrence}

-- ---- forms

-- the form of a subscript, where it is linear; a section has none
abbrev pub IsFormIn : List (List ℕ) → List (List ℕ) → Subscript → Option Affine → Type 0
IsFormIn loops symbols (Only e) f = IsFound (length loops) (form_of loops symbols e) f
IsFormIn loops symbols (Section a b s) f = f ≡ None

abbrev pub AreFormsIn : List (List ℕ) → List (List ℕ) → Subscripts → List (Option Affine) → Type 0
AreFormsIn loops symbols no_subscripts [] = Unit {0}
AreFormsIn loops symbols no_subscripts (f ∷ fs) = ⊥
AreFormsIn loops symbols (subscript s ss) [] = ⊥
AreFormsIn loops symbols (subscript s ss) (f ∷ fs) = IsFormIn loops symbols s f × AreFormsIn loops symbols ss fs

-- a form has seven places
abbrev pub HasSevenLoops : Option Affine → Type 0
HasSevenLoops f = IfSome f (λ (a : Affine). length a.loops ≡ 7)

-- ---- occurrences

-- what is kept of this reference of a statement
pub record IsOccurrenceOf (symbols : List (List ℕ)) (s : Standing) (r : Reference) (o : Occurrence) : Type 0 where
  pub name : o.name ≡ r.name
  pub loops : o.loops ≡ map (λ (l : Loop). l.number) s.loops
  pub spans : o.spans ≡ spans_of [] s.loops
  pub forms : AreFormsIn (variables_round s) symbols r.subscripts o.forms
  pub seven : All HasSevenLoops o.forms

-- those of a statement with this number, from a place on
abbrev pub AreOccurrencesFrom :
    List (List ℕ) → ℕ → Standing → ℕ → List Reference → List Occurrence → Type 0
AreOccurrencesFrom symbols number s k [] [] = Unit {0}
AreOccurrencesFrom symbols number s k [] (o ∷ os) = ⊥
AreOccurrencesFrom symbols number s k (r ∷ rs) [] = ⊥
AreOccurrencesFrom symbols number s k (r ∷ rs) (o ∷ os) =
    (o.place ≡ record { stmt = number; at = k }) × IsOccurrenceOf symbols s r o
    × AreOccurrencesFrom symbols number s (suc k) rs os

-- those of statements from a number on
abbrev pub AreOccurrencesIn : List (List ℕ) → ℕ → List Standing → List Occurrence → Type 0
AreOccurrencesIn symbols number [] os = os ≡ []
AreOccurrencesIn symbols number (s ∷ ss) os =
    (first : List Occurrence) × (rest : List Occurrence) × (os ≡ first ++ rest)
    × AreOccurrencesFrom symbols number s 0 (references_of s) first
    × AreOccurrencesIn symbols (suc number) ss rest

-- ---- the same, by places

pub record IsOccurrence (n : Nest) (o : Occurrence) : Type 0 where
  pub standing : Standing
  pub reference : Reference
  pub is_reference : IsReferenceAt n o.place standing reference
  pub kept : IsOccurrenceOf n.symbols standing reference o

-- each reference of the nest once, in their order
pub record AreOccurrences (n : Nest) (os : List Occurrence) : Type 0 where
  pub each : All (IsOccurrence n) os
  pub every : (p : Place) (s : Standing) (r : Reference) → IsReferenceAt n p s r
      → IsMember p (map (λ (o : Occurrence). o.place) os)
  pub in_order : Pairwise IsEarlierPlace (map (λ (o : Occurrence). o.place) os)
