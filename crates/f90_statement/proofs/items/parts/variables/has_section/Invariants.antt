use Rattle.std.proofs.Common.{◌≡◌, ◌≤◌, drop}
use Rattle.f90_expressions.specs.Views.{nodes_seen}
use Rattle.f90_statement.specs.items.parts.Variables.{has_section}
use Rattle.f90_statement.proofs.items.parts.variables.has_section.Given as goal

abbrev pub invariant-loop-node : goal.invariant-loop-node
invariant-loop-node l =
    (has_section (nodes_seen l.nodes) 0 ≡ has_section (nodes_seen (drop l.node-index l.nodes)) l.level)
    × (l.level ≤ l.node-index)
