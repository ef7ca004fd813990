use Rattle.std.proofs.Common.{◌≡◌, take}
use Rattle.std.specs.List.{list_any}
use Rattle.nest_reasons.specs.Flaws.{leaves_loop}
use Rattle.nest_reasons.proofs.labels.exits.Given as goal

abbrev pub invariant-loop-i : goal.invariant-loop-i
invariant-loop-i l = l.left ≡ list_any (leaves_loop l.marks) (take l.i l.marks)
