-- A nest that may be tested may be asked for its holds.
use Rattle.std.proofs.Common.{◌<◌, ◌^◌, length}
use Rattle.array_form.specs.holds.Plain.{IsPlainNest}
use Rattle.dependence_graph.specs.nest_graph.Ready.{IsReady}
use Rattle.nest.specs.Bodies.{nest_statements}
use Rattle.nest.specs.Plain.{Nest}

pub plain_nest : (n : Nest) → IsReady n → length (nest_statements n) < 2 ^ 32 → IsPlainNest n
plain_nest n ready few =
    record { few = few; few_loops = λ k d h. (ready.statements k d h).depth; symbols = ready.symbols }
