use Rattle.dependence_tests.proofs.delta_test.Alone.{alone_shared, alone_first, alone_second}
use Rattle.dependence_tests.proofs.delta_test.left.is_alone.Goals as goal

pub returns-then-are_zero_but : goal.returns-then-are_zero_but
returns-then-are_zero_but c = rw c.in-Shared.is (λ t. alone_shared c.args.p.now c.in-Shared.place (c.are_zero_but.ensures c.if-are_zero_but.true) (c.are_zero_but-then-are_zero_but.ensures t))

pub returns-then-are_zero_but-2 : goal.returns-then-are_zero_but-2
returns-then-are_zero_but-2 c = rw c.in-First.is (λ t. alone_first c.args.p.now c.in-First.place (c.are_zero_but-in-First.ensures c.if-are_zero_but-2.true) (c.are_zero.ensures.0 t))

pub returns-then-are_zero : goal.returns-then-are_zero
returns-then-are_zero c = rw c.in-Second.is (λ t. alone_second c.args.p.now c.in-Second.place (c.are_zero-in-Second.ensures.0 c.if-are_zero.true) (c.are_zero_but-then-are_zero.ensures t))
