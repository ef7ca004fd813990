use Rattle.std.proofs.Common.{◌≡◌, drop}
use Rattle.std.specs.List.{list_any}
use Rattle.f90_expressions.specs.Literals.{is_wide_node}
use Rattle.f90_expressions.specs.Views.{nodes_seen}
use Rattle.f90_expressions.proofs.literals.has_wide.Given as goal

abbrev pub invariant-loop-node : goal.invariant-loop-node
invariant-loop-node l =
    list_any is_wide_node (nodes_seen l.nodes) ≡ list_any is_wide_node (nodes_seen (drop l.node-index l.nodes))
