use Rattle.std.proofs.Common.{take}
use Rattle.closed_walks.specs.Distances.{IsLeastNext}
use Rattle.closed_walks.proofs.walks.least_next.Given as goal

abbrev pub invariant-loop-pair : goal.invariant-loop-pair
invariant-loop-pair l = IsLeastNext (take l.pair-index l.pairs) l.steps l.from l.count l.least
