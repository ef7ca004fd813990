use Rattle.std.proofs.Common.{arith}
use Rattle.reductions.proofs.LoopLaws.{without_more}
use Rattle.reductions.proofs.reading.add_without.Goals as goal

pub loop-name-preserved : goal.loop-name-preserved
loop-name-preserved c =
    without_more c.args.variable c.args.more.now c.loop-name.name-index c.name-item.result c.args.names.now c.loop-name.names c.add_other.new.names
    (omega arith) c.name-item.is c.loop-name.invariant c.in_ok-add_other.ensures
