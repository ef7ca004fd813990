use Rattle.std.proofs.Common.{◌<◌, arith}
use Rattle.dependence_tests.proofs.delta_test.Regions.{none_shared, none_first, none_second}
use Rattle.dependence_tests.proofs.delta_test.refute.leaves_none_at.Goals as goal

pub returns-then-place-from : goal.returns-then-place-from
returns-then-place-from c =
    let b : c.args.place < c.args.p.now.common = omega arith in
    λ t. none_shared c.args.constraints.now c.args.p.now c.args.d.now c.args.place _ _ (omega arith) (omega arith) (omega arith) (c.requires.pairing.common_spans c.args.place b) (c.leaves_none.ensures.sound t)

pub returns-then-leaves_none : goal.returns-then-leaves_none
returns-then-leaves_none c = λ t. none_first c.args.constraints.now c.args.p.now c.args.d.now c.args.place _ (omega arith) (c.leaves_none-2.ensures.sound c.if-leaves_none.true)

pub returns-else-leaves_none : goal.returns-else-leaves_none
returns-else-leaves_none c = λ t. none_second c.args.constraints.now c.args.p.now c.args.d.now c.args.place _ (omega arith) (c.leaves_none-else-leaves_none.ensures.sound t)
