use Rattle.std.proofs.Common.{◌≡◌, [], drop}
use Rattle.f90_expressions.specs.Views.{nodes_seen}
use Rattle.f90_trees.specs.Calls.{check_all}
use Rattle.f90_trees.specs.Hiding.{function_in}
use Rattle.f90_trees.specs.CallViews.{stack}
use Rattle.f90_trees.proofs.calls.suit.Given as goal

abbrev pub invariant-checking : goal.invariant-checking
invariant-checking l =
    check_all (function_in l.functions) (nodes_seen l.nodes) []
    ≡ check_all (function_in l.functions) (nodes_seen (drop l.node-index l.nodes)) (stack l.entries.items)
