use Rattle.std.proofs.Common.{arith}
use Rattle.closed_walks.proofs.MoreWalks.{class_more}
use Rattle.closed_walks.proofs.member_walks.cycles.Goals as goal

pub loop-class-preserved : goal.loop-class-preserved
loop-class-preserved c =
    class_more c.args.pairs.now c.as_slice-class-items.result.now c.args.classes.now c.loop-class.class-index c.class-item.result c.loop-class.walks c.add_cycles.new.walks
    c.as_slice-class-items.ensures (omega arith) c.class-item.is c.loop-class.invariant c.in_ok-add_cycles.ensures
