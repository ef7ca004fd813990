use Rattle.std.proofs.Common.{arith}
use Rattle.subscripts.proofs.Coupling.{compared, least_of_all}
use Rattle.subscripts.proofs.groups.partition.Goals as goal

pub loop-place-preserved : goal.loop-place-preserved
loop-place-preserved c = compared c.args.ps.now c.join_earlier.new.groups c.loop-place.place c.join_earlier.ensures

pub returns : goal.returns
returns c = least_of_all c.args.ps.now c.loop-place.of c.loop-place.place (omega arith) c.loop-place.invariant
