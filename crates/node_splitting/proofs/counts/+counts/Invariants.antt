-- The total so far is that of the expressions or subscripts so far.
use Rattle.std.proofs.Common.{◌≡◌, map, take}
use Rattle.tree.specs.Plain.{expressions, subscripts}
use Rattle.tree.specs.View.{expression_of, subscript_of}
use Rattle.node_splitting.specs.Counts.{count_all, count_in_subscripts}
use Rattle.node_splitting.proofs.counts.+counts.Given as goal

abbrev pub invariant-count_all-loop-expr : goal.invariant-count_all-loop-expr
invariant-count_all-loop-expr l =
    l.total ≡ count_all l.loops (expressions (map expression_of (take l.expr-index l.expr-items)))

abbrev pub invariant-count_subs-loop-sub : goal.invariant-count_subs-loop-sub
invariant-count_subs-loop-sub l =
    l.total ≡ count_in_subscripts l.loops (subscripts (map subscript_of (take l.sub-index l.sub-items)))
