use Rattle.std.proofs.Common.{arith}
use Rattle.closed_walks.proofs.MoreWalks.{number_more}
use Rattle.closed_walks.proofs.member_walks.add_cycles.Goals as goal

pub loop-start-preserved : goal.loop-start-preserved
loop-start-preserved c =
    number_more c.args.pairs.now c.as_slice-start-items.result.now c.args.class.now c.loop-start.start-index c.args.walks.now c.loop-start.walks c.add_cycle.new.walks
    c.as_slice-start-items.ensures (omega arith) c.loop-start.invariant c.in_ok-add_cycle.ensures
