-- Occurrences that are added to those so far, and what stands round a statement.
use Rattle.std.specs.Prelude.{◌≡◌, ℕ, List, [], ◌++◌, map}
use Rattle.tree.specs.Plain.{Reference}
use Rattle.nest.specs.Plain.{Loop}
use Rattle.nest.specs.Bodies.{Standing}
use Rattle.dependence_graph.specs.nest_graph.References.{variables_round}
use Rattle.dependence_graph.specs.nest_graph.Spans.{spans_of}
use Rattle.dependence_graph.specs.nest_references.Occurrences.{AreOccurrencesFrom}
use Rattle.dependence_graph.specs.declared.nest_references.occurrences.Occurrence.{Occurrence}
use Rattle.dependence_graph.specs.declared.nest_references.occurrences.Round.{Round}

pub record IsRound (s : Standing) (r : Round) : Type 0 where
  pub names : r.names ≡ variables_round s
  pub loops : r.loops ≡ map (λ (l : Loop). l.number) s.loops
  pub spans : r.spans ≡ spans_of [] s.loops

-- those of these references of a statement
pub record IsAdded (symbols : List (List ℕ)) (number : ℕ) (s : Standing) (rs : List Reference)
    (old new : List Occurrence) : Type 0 where
  pub first : List Occurrence
  pub is : new ≡ old ++ first
  pub are : AreOccurrencesFrom symbols number s 0 rs first
