use Rattle.std.proofs.Common.{arith}
use Rattle.node_splitting.proofs.Counting.{all_step, in_step}
use Rattle.node_splitting.proofs.counts.+counts.Goals as goal

pub count_all-loop-expr-preserved : goal.count_all-loop-expr-preserved
count_all-loop-expr-preserved t c =
    all_step c.args.loops.now c.as_slice-expr-items.result.now c.loop-expr.expr-index c.expr-item.result c.loop-expr.total c.in_ok-count.field-0 c.in_ok-total.total
    (omega arith) c.expr-item.is c.loop-expr.invariant c.in_ok-count.ensures c.in_ok-total.ensures

pub count_subs-loop-sub-preserved : goal.count_subs-loop-sub-preserved
count_subs-loop-sub-preserved t c =
    in_step c.args.loops.now c.as_slice-sub-items.result.now c.loop-sub.sub-index c.sub-item.result c.loop-sub.total c.in_ok-count_sub.field-0 c.in_ok-total.total
    (omega arith) c.sub-item.is c.loop-sub.invariant c.in_ok-count_sub.ensures c.in_ok-total.ensures
