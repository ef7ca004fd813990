use Rattle.std.proofs.Common.{◌-◌, drop, arith}
use Rattle.nest_reasons.proofs.Lists.{one_before}
use Rattle.nest_reasons.proofs.LabelLaws.{one_passed}
use Rattle.nest_reasons.proofs.labels.jumps_over_loop.Goals as goal

pub loop-i-preserved : goal.loop-i-preserved
loop-i-preserved c =
    one_passed _ (drop c.loop-i.i c.args.marks.now) (drop (c.loop-i.i - 1) c.args.marks.now) c.in_ok-labels.labels c.passed-now.result c.loop-i.found
    (c.in_ok-labels.ensures (drop c.loop-i.i c.args.marks.now) c.loop-i.invariant.0)
    (c.passed-now.ensures (drop c.loop-i.i c.args.marks.now) c.loop-i.invariant.0)
    c.loop-i.invariant.1 (one_before c.args.marks.now (c.loop-i.i - 1) c.loop-i.i _ (omega arith) (omega arith))
