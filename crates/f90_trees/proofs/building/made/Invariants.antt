use Rattle.std.proofs.Common.{◌≡◌, [], drop}
use Rattle.f90_expressions.specs.Views.{nodes_seen}
use Rattle.f90_trees.specs.Building.{build_all}
use Rattle.f90_trees.specs.Hiding.{function_in}
use Rattle.f90_trees.specs.Views.{stack}
use Rattle.f90_trees.proofs.building.made.Given as goal

abbrev pub invariant-building : goal.invariant-building
invariant-building l =
    build_all (function_in l.functions) (nodes_seen l.nodes) []
    ≡ build_all (function_in l.functions) (nodes_seen (drop l.node-index l.nodes)) (stack l.entries.items)
