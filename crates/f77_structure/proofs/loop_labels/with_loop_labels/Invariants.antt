use Rattle.std.proofs.Common.{length}
use Rattle.f77_structure.proofs.LoopLabelLaws.{AreLabelled}
use Rattle.f77_structure.proofs.loop_labels.with_loop_labels.Given as goal

abbrev pub invariant-back : goal.invariant-back
invariant-back l = AreLabelled l.fn.text l.left l.ends l.done

abbrev pub decreases-back : goal.decreases-back
decreases-back l = length l.left
