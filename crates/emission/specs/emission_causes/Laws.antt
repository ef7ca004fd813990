-- Laws of the cycles of what is emitted for a nest of loops and statements alone.
use Rattle.std.specs.Prelude.{List}
use Rattle.components.specs.Lists.{Distinct}
use Rattle.dependence_graph.specs.declared.graphs.Cycle.{Cycle}
use Rattle.dependence_graph.specs.declared.graphs.Edge.{Edge}
use Rattle.dependence_graph.specs.declared.graphs.Hold.{Hold}
use Rattle.nest.specs.Bodies.{loops_of}
use Rattle.nest.specs.Plain.{Nest}
use Rattle.nest_order.specs.shapes.Shapes.{IsPlain, numbers_of}
use Rattle.emission.specs.emission_causes.Causes.{HaveCauses}
use Rattle.emission.specs.emission_pieces.Cycles.{AreCyclesOf}
use Rattle.emission.specs.emission_pieces.Edges.{AreEdgesOf}

-- each loop of it has its causes
abbrev pub LoopsHaveCauses : Type 0
LoopsHaveCauses = (n : Nest) (edges : List Edge) (holds : List Hold) (cs : List Cycle) → IsPlain n.body
    → Distinct (numbers_of (loops_of n.body)) → AreEdgesOf n edges → AreCyclesOf n edges holds cs
    → HaveCauses n edges holds cs
