use Rattle.std.proofs.Common.{List}
use Rattle.f90_statement.specs.items.Flat as flats
use Rattle.f90_statement.specs.items.Views.{IsNodeOf}
use Rattle.f90_statement.specs.Contents.{test_of, node_holds}
use Rattle.f90_statement.specs.Views.{AreOf}
use Rattle.f90_statement.proofs.AnyLaws.{IsLeft}
use Rattle.f90_statement.proofs.contents.Test.holds_of_nodes.Given as goal

abbrev pub invariant-loop-node : goal.invariant-loop-node
invariant-loop-node l = (all : List flats.Node) → AreOf IsNodeOf l.nodes all → IsLeft IsNodeOf (node_holds (test_of l.self)) l.nodes l.node-index all
