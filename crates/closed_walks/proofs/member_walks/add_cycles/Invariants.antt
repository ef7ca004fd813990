use Rattle.std.proofs.Common.{take}
use Rattle.closed_walks.specs.Cycles.{Adds}
use Rattle.closed_walks.proofs.member_walks.add_cycles.Given as goal

abbrev pub invariant-loop-start : goal.invariant-loop-start
invariant-loop-start l = Adds l.pairs (take l.start-index l.class) l.fn.walks l.walks
