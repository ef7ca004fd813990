-- A nest that can be tested may be emitted from, by its graph.
use Rattle.std.proofs.Common.{◌<◌, ◌^◌, length, get_or, arith}
use Rattle.dependence_graph.specs.declared.graphs.Graph.{Graph}
use Rattle.dependence_graph.specs.nest_graph.Graph.{IsGraphOf}
use Rattle.dependence_graph.specs.nest_graph.Ready.{IsReady, IsReadyStatement}
use Rattle.emission.proofs.EmissionForms.WrittenTables.{ready_is_shallow}
use Rattle.emission.proofs.GraphEdges.Leading.{edges_lead}
use Rattle.emission.specs.nest_emission.Given.{HasLoopForms, MayBeEmitted}
use Rattle.nest.specs.Bodies.{Standing, nest_statements}
use Rattle.nest.specs.Plain.{Nest}
use Rattle.answers.proofs.Formed.{trip_forms}

loop_forms : (s : Standing) → IsReadyStatement s → HasLoopForms s
loop_forms s h = record { few = h.depth; trips = trip_forms 0 (length s.loops) s.loops (omega arith) h.trips }

pub may_be_emitted : (n : Nest) (g : Graph) → IsReady n → length n.symbols < 2 ^ 16 → IsGraphOf n g → MayBeEmitted n g
may_be_emitted n g ready symbols graph = record {
  symbols = symbols;
  statements = λ k d h. loop_forms (get_or (nest_statements n) k d) (ready.statements k d h);
  count = graph.statements;
  edges = edges_lead n g (ready_is_shallow n ready) graph;
}
