use Rattle.std.proofs.Common.{length}
use Rattle.scalar_expand.proofs.parts.+is_innermost.Given as goal

abbrev pub decreases-is_innermost : goal.decreases-is_innermost
decreases-is_innermost l = length l.loops.now
