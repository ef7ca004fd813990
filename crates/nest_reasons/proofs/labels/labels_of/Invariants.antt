use Rattle.std.proofs.Common.{drop}
use Rattle.nest_reasons.specs.Labels.{AreLabels}
use Rattle.nest_reasons.proofs.labels.labels_of.Given as goal

abbrev pub invariant-loop-i : goal.invariant-loop-i
invariant-loop-i l = AreLabels (drop l.i l.marks) l.labels
