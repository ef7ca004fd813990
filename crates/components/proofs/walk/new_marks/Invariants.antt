use Rattle.std.proofs.Common.{◌≡◌, replicate}
use Rattle.components.specs.declared.walk.NodeState.TheVariants.{New}
use Rattle.components.proofs.walk.new_marks.Given as goal

abbrev pub invariant-loop-number : goal.invariant-loop-number
invariant-loop-number l = l.marks.items ≡ replicate l._number New
