-- Those so far were added.
use Rattle.std.proofs.Common.{◌≡◌, ◌++◌, map, take}
use Rattle.tree.specs.View.{reference_of}
use Rattle.dependence_graph.proofs.nest_ready.references.add_items.Given as goal

abbrev pub invariant-loop-item : goal.invariant-loop-item
invariant-loop-item l = map reference_of l.list ≡ map reference_of l.initial.list ++ map reference_of (take l.item-index l.items)
