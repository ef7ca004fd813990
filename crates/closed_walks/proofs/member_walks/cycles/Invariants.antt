use Rattle.std.proofs.Common.{take}
use Rattle.std.specs.List.{concat}
use Rattle.closed_walks.specs.Cycles.{AreCycles}
use Rattle.closed_walks.proofs.member_walks.cycles.Given as goal

abbrev pub invariant-loop-class : goal.invariant-loop-class
invariant-loop-class l = AreCycles l.pairs (concat (take l.class-index l.classes)) l.walks
