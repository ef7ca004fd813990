-- All so far are elements.
use Rattle.std.proofs.Common.{take}
use Rattle.std.specs.Prelude.{All}
use Rattle.tree.specs.View.{reference_of}
use Rattle.tree.specs.declared.exprs.Ref.{Ref}
use Rattle.dependence_graph.specs.nest_graph.Ready.{IsElement}
use Rattle.dependence_graph.proofs.nest_ready.references.all_elements.Given as goal

abbrev pub invariant-loop-item : goal.invariant-loop-item
invariant-loop-item l = All (λ (r : Ref). IsElement (reference_of r)) (take l.item-index l.items)
