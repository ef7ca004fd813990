-- The references so far were added.
use Rattle.std.proofs.Common.{map, take}
use Rattle.tree.specs.View.{reference_of}
use Rattle.nest.specs.Bodies.{Standing}
use Rattle.dependence_graph.specs.nest_references.Added.{IsAdded, IsRound}
use Rattle.dependence_graph.proofs.nest_references.occurrences.add_items.Given as goal

abbrev pub invariant-loop-at : goal.invariant-loop-at
invariant-loop-at l = (s : Standing) → IsRound s l.round → IsAdded l.symbols l.round.number s (map reference_of (take l.at l.items)) l.initial.list l.list
