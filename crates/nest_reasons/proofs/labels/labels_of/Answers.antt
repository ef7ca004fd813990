use Rattle.std.proofs.Common.{◌-◌, drop, subst, arith}
use Rattle.nest_reasons.specs.Labels.{AreLabels}
use Rattle.nest_reasons.proofs.Lists.{one_before}
use Rattle.nest_reasons.proofs.labels.labels_of.Goals as goal

pub loop-i-preserved : goal.loop-i-preserved
loop-i-preserved c =
    subst (λ ms. AreLabels ms c.in_ok-labels.labels) (one_before c.args.marks.now (c.loop-i.i - 1) c.loop-i.i _ (omega arith) (omega arith))
    (c.in_ok-labels.ensures (drop c.loop-i.i c.args.marks.now) c.loop-i.invariant)
