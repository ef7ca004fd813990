use Rattle.std.proofs.Common.{map, arith}
use Rattle.tree.specs.View.{expression_of, reference_of, subscript_of}
use Rattle.dependence_graph.specs.nest_graph.References.{references_in, references_in_subscript}
use Rattle.nest.proofs.statement_loops.StandingLaws.{more}
use Rattle.dependence_graph.proofs.nest_references.collecting.Found.+found.Goals as goal

pub add_exprs-loop-expr-preserved : goal.add_exprs-loop-expr-preserved
add_exprs-loop-expr-preserved t c =
    more (references_in c.args.loops.now) expression_of c.as_slice-expr-items.result.now c.loop-expr.expr-index c.expr-item.result
    (map reference_of c.args.self.now.list) (map reference_of c.loop-expr.self.list) (map reference_of c.add_expr.new.self.list)
    (omega arith) c.expr-item.is c.loop-expr.invariant c.in_ok-add_expr.ensures

pub add_subs-loop-sub-preserved : goal.add_subs-loop-sub-preserved
add_subs-loop-sub-preserved t c =
    more (references_in_subscript c.args.loops.now) subscript_of c.as_slice-sub-items.result.now c.loop-sub.sub-index c.sub-item.result
    (map reference_of c.args.self.now.list) (map reference_of c.loop-sub.self.list) (map reference_of c.add_sub.new.self.list)
    (omega arith) c.sub-item.is c.loop-sub.invariant c.in_ok-add_sub.ensures
