-- What emission asks for holds of nests that can be tested.
use Rattle.std.specs.Prelude.{◌<◌, ◌^◌, length}
use Rattle.dependence_graph.specs.declared.graphs.Graph.{Graph}
use Rattle.emission.specs.nest_emission.Given.{MayBeEmitted}
use Rattle.dependence_graph.specs.nest_graph.Graph.{IsGraphOf}
use Rattle.dependence_graph.specs.nest_graph.Ready.{IsReady}
use Rattle.nest.specs.Plain.{Nest}

abbrev pub ReadyNestsMayBeEmitted : Type 0
ReadyNestsMayBeEmitted =
    (n : Nest) (g : Graph) → IsReady n → length n.symbols < 2 ^ 16 → IsGraphOf n g → MayBeEmitted n g
