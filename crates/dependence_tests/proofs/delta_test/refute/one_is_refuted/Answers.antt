use Rattle.std.proofs.Common.{arith}
use Rattle.dependence_tests.proofs.delta_test.refute.one_is_refuted.Goals as goal

pub returns-then-is_refuted : goal.returns-then-is_refuted
returns-then-is_refuted c = λ t x y k a.
    let pair = a c.loop-p.p-index _ (omega arith) in
    c.is_refuted.ensures c.if-is_refuted.true x y k pair.region (pair.equal (c.requires.linear c.loop-p.p-index _ (omega arith)))
