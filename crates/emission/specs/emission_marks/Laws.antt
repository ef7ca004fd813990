-- What is emitted for a nest is marked as its graph and holds have it.
use Rattle.std.specs.Prelude.{◌≡◌, List, [], length}
use Rattle.std.specs.List.{range_with_len}
use Rattle.components.specs.Lists.{Distinct}
use Rattle.dependence_graph.specs.declared.graphs.Edge.{Edge}
use Rattle.dependence_graph.specs.declared.graphs.Hold.{Hold}
use Rattle.emission.specs.emission_pieces.Emission.{AreEmitted}
use Rattle.emission.specs.emission_pieces.Edges.{AreEdgesOf}
use Rattle.emission.specs.emission_pieces.Pieces.{Pieces, translation}
use Rattle.nest_order.specs.shapes.Shapes.{IsPlain, numbers_of}
use Rattle.nest.specs.Bodies.{loops_of, nest_statements}
use Rattle.nest.specs.Plain.{Nest}
use Rattle.emission.specs.emission_marks.ByGraph.{AreMarked, AreTogether}
use Rattle.emission.specs.emission_marks.Marks.{marked_in}

-- loops and statements alone, each loop with its own number, by edges of this nest; what comes after it isn't marked
pub record MayBeMarked (n : Nest) (edges : List Edge) : Type 0 where
  pub plain : IsPlain n.body
  pub numbers : Distinct (numbers_of (loops_of n.body))
  pub edges_are : AreEdgesOf n edges
  pub after : marked_in [] n.after ≡ []

abbrev pub EmissionIsMarked : Type 0
EmissionIsMarked = (n : Nest) (edges : List Edge) (holds : List Hold) (ps : Pieces) → MayBeMarked n edges
    → AreEmitted n edges holds 1 (range_with_len 0 (length (nest_statements n))) ps
    → AreMarked n edges holds (marked_in [] (translation n ps))

abbrev pub EmissionKeepsTogether : Type 0
EmissionKeepsTogether = (n : Nest) (edges : List Edge) (holds : List Hold) (ps : Pieces) → MayBeMarked n edges
    → AreEmitted n edges holds 1 (range_with_len 0 (length (nest_statements n))) ps
    → AreTogether n edges (translation n ps)
