use Rattle.std.proofs.Common.{◌≡◌, length}
use Rattle.subscripts.specs.Partitions.{AreGroupedUpTo}
use Rattle.subscripts.proofs.groups.partition.Given as goal

abbrev pub invariant-loop-place : goal.invariant-loop-place
invariant-loop-place l = AreGroupedUpTo l.ps l.of l.place 0
