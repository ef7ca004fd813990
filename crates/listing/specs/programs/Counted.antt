-- Nests whose statements, and the references of each, have numbers of 32 bits, counted from 1.
use Rattle.std.specs.Prelude.{◌+◌, ◌<◌, ◌^◌, All, length}
use Rattle.dependence_graph.specs.nest_graph.References.{references_of}
use Rattle.nest.specs.Bodies.{Standing, nest_statements}
use Rattle.nest.specs.Plain.{Nest}

pub record AreCounted (m : Nest) : Type 0 where
  pub statements : length (nest_statements m) + 1 < 2 ^ 32
  pub references : All (λ (x : Standing). length (references_of x) + 1 < 2 ^ 32) (nest_statements m)
