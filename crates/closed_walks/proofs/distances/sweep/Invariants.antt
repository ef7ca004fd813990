use Rattle.std.proofs.Common.{take}
use Rattle.closed_walks.specs.Distances.{IsSweep}
use Rattle.closed_walks.proofs.distances.sweep.Given as goal

abbrev pub invariant-loop-from : goal.invariant-loop-from
invariant-loop-from l = IsSweep (take l.from-index l.pairs) l.count l.fn.steps.items l.steps.items l.any
