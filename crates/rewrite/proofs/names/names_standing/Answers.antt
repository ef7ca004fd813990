use Rattle.std.proofs.Common.{arith}
use Rattle.rewrite.proofs.NameLaws.{noted}
use Rattle.rewrite.proofs.names.names_standing.Goals as goal

pub loop-used-preserved : goal.loop-used-preserved
loop-used-preserved c =
    noted c.args.way c.args.uses.now c.loop-used.used-index c.used-item.result c.loop-used.names.keys c.insert_standing.new.names.keys
    (omega arith) c.used-item.is c.loop-used.invariant c.in_ok-insert_standing.ensures
