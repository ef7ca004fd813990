use Rattle.std.proofs.Common.{◌≡◌, map, take}
use Rattle.components.specs.Walking.{label_of}
use Rattle.components.proofs.walk.labels_of.Given as goal

abbrev pub invariant-loop-mark : goal.invariant-loop-mark
invariant-loop-mark l = l.labels.items ≡ map label_of (take l.mark-index l.marks)
