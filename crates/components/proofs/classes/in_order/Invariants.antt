use Rattle.std.proofs.Common.{◌-◌, length}
use Rattle.components.proofs.Ordering.{IsUnderWay}
use Rattle.components.proofs.classes.in_order.Given as goal

abbrev pub invariant-classes : goal.invariant-classes
invariant-classes l = IsUnderWay l.n l.count l.labels l.tables l.rest l.classes

abbrev pub decreases-classes : goal.decreases-classes
decreases-classes l = l.count - length l.classes
