-- All so far have its rank.
use Rattle.std.proofs.Common.{take}
use Rattle.std.specs.Prelude.{All}
use Rattle.tree.specs.View.{reference_of}
use Rattle.tree.specs.declared.exprs.Ref.{Ref}
use Rattle.dependence_graph.specs.nest_ready.Gathered.{HaveSameRank}
use Rattle.dependence_graph.proofs.nest_ready.references.have_rank_of.Given as goal

abbrev pub invariant-loop-other : goal.invariant-loop-other
invariant-loop-other l = All (λ (r : Ref). HaveSameRank (reference_of l.one) (reference_of r)) (take l.other-index l.others)
