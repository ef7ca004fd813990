use Rattle.std.proofs.Common.{take}
use Rattle.components.specs.Targets.{AreTargets}
use Rattle.components.proofs.rows.rows_of.Given as goal

abbrev pub invariant-loop-from : goal.invariant-loop-from
invariant-loop-from l = AreTargets l.n (take l.from-index l.pairs) l.rows.items
