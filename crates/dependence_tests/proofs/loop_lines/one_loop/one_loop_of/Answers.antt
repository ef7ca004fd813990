use Rattle.std.proofs.Common.{arith}
use Rattle.dependence_tests.proofs.loop_lines.Loops.{no_loop_left}
use Rattle.dependence_tests.proofs.loop_lines.one_loop.one_loop_of.Goals as goal

pub unreachable-requires : goal.unreachable-requires
unreachable-requires c =
    no_loop_left c.args.p.now (omega (arith, c.requires.pairing.from_common, c.requires.pairing.from_depth)) (λ k h. c.loop-place.invariant k (omega arith)) c.requires.one.0 c.requires.one.1
