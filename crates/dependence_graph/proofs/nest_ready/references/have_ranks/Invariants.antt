-- The ranks of all so far are those of the others.
use Rattle.std.proofs.Common.{take}
use Rattle.std.specs.Prelude.{All}
use Rattle.tree.specs.View.{reference_of}
use Rattle.tree.specs.declared.exprs.Ref.{Ref}
use Rattle.dependence_graph.specs.nest_ready.Gathered.{HaveSameRank}
use Rattle.dependence_graph.proofs.nest_ready.references.have_ranks.Given as goal

abbrev pub invariant-loop-item : goal.invariant-loop-item
invariant-loop-item l = All (λ (q : Ref). All (λ (r : Ref). HaveSameRank (reference_of q) (reference_of r)) l.items) (take l.item-index l.items)
