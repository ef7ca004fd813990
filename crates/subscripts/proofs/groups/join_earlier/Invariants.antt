use Rattle.std.proofs.Common.{◌≡◌, length}
use Rattle.subscripts.specs.Partitions.{AreGroupedUpTo}
use Rattle.subscripts.proofs.groups.join_earlier.Given as goal

abbrev pub invariant-loop-earlier : goal.invariant-loop-earlier
invariant-loop-earlier l = AreGroupedUpTo l.ps l.groups l.place l.earlier
