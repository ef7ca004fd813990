use Rattle.std.proofs.Common.{List}
use Rattle.f90_statement.specs.items.Flat as flats
use Rattle.f90_statement.specs.items.Views.{IsNodeOf}
use Rattle.f90_statement.specs.Views.{AreOf}
use Rattle.f90_trees.specs.Hiding.{function_in}
use Rattle.f90_names.specs.calls.Calls.{NodeSuits}
use Rattle.f90_names.proofs.calls.CallLaws.{IsLeft}
use Rattle.f90_names.proofs.calls.walk.nodes_suit.Given as goal

abbrev pub invariant-loop-node : goal.invariant-loop-node
invariant-loop-node l =
    (all : List flats.Node) → AreOf IsNodeOf l.nodes all
    → IsLeft IsNodeOf (NodeSuits (function_in l.functions) l.direction) l.nodes l.node-index all
