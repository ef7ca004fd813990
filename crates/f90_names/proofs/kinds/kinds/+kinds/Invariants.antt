-- What is still to come goes on from what was found so far.
use Rattle.std.proofs.Common.{◌≡◌, ◌≤◌, map, drop, None}
use Rattle.tree.specs.Plain.{subscripts, expressions}
use Rattle.tree.specs.View.{expression_of, subscript_of, loop_of, constructor_loops}
use Rattle.f90_names.specs.kinds.declarations.Names.{found}
use Rattle.f90_names.specs.kinds.Found.{common_rank, common_kind, are_scalars, are_loops, rank_of_all}
use Rattle.f90_names.proofs.kinds.kinds.+kinds.Given as goal

abbrev pub invariant-common_rank-loop-argument : goal.invariant-common_rank-loop-argument
invariant-common_rank-loop-argument l =
    common_rank (found l.names) 0 (expressions (map expression_of l.argument-items))
    ≡ common_rank (found l.names) l.rank (expressions (map expression_of (drop l.argument-index l.argument-items)))

abbrev pub invariant-common_kind-loop-value : goal.invariant-common_kind-loop-value
invariant-common_kind-loop-value l =
    common_kind (found l.names) None (expressions (map expression_of l.value-items))
    ≡ common_kind (found l.names) l.kind (expressions (map expression_of (drop l.value-index l.value-items)))

abbrev pub invariant-are_scalars-loop-expr : goal.invariant-are_scalars-loop-expr
invariant-are_scalars-loop-expr l =
    are_scalars (found l.names) l.kind (expressions (map expression_of l.expr-items))
    ≡ are_scalars (found l.names) l.kind (expressions (map expression_of (drop l.expr-index l.expr-items)))

abbrev pub invariant-are_loops-loop-turn : goal.invariant-are_loops-loop-turn
invariant-are_loops-loop-turn l =
    are_loops (found l.names) (constructor_loops (map loop_of l.turn-items)) ≡ are_loops (found l.names)
    (constructor_loops (map loop_of (drop l.turn-index l.turn-items)))

abbrev pub invariant-rank_of_all-loop-sub : goal.invariant-rank_of_all-loop-sub
invariant-rank_of_all-loop-sub l = record {
  same : rank_of_all (found l.names) 0 (subscripts (map subscript_of l.sub-items))
      ≡ rank_of_all (found l.names) l.rank (subscripts (map subscript_of (drop l.sub-index l.sub-items)));
  small : l.rank ≤ l.sub-index;
}
