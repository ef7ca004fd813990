use Rattle.std.proofs.Common.{take}
use Rattle.components.specs.Classes.{ArePairsBetween}
use Rattle.components.proofs.tables.pairs_between.Given as goal

abbrev pub invariant-loop-from : goal.invariant-loop-from
invariant-loop-from l = ArePairsBetween (take l.from-index l.pairs) l.labels l.between.items
