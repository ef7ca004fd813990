use Rattle.std.proofs.Common.{◌≡◌, drop}
use Rattle.nest_reasons.specs.Flaws.{jumps_over_loop}
use Rattle.nest_reasons.specs.Labels.{AreLabels}
use Rattle.nest_reasons.proofs.labels.jumps_over_loop.Given as goal

abbrev pub invariant-loop-i : goal.invariant-loop-i
invariant-loop-i l = AreLabels (drop l.i l.marks) l.labels × (l.found ≡ jumps_over_loop (drop l.i l.marks))
