use Rattle.dependence_tests.proofs.delta_test.Refuting.{equal_sides}
use Rattle.dependence_tests.proofs.delta_test.refute.constraints_refute.Goals as goal

pub returns-in-None : goal.returns-in-None
returns-in-None c = λ t x y r. c.in-None.ensures x y (equal_sides c.args.ps.now c.args.d.now x y c.requires.linear r)

pub returns-then-one_leaves_none : goal.returns-then-one_leaves_none
returns-then-one_leaves_none c = λ t x y r.
    let k = c.in-Some.ensures.kept x y (equal_sides c.args.ps.now c.args.d.now x y c.requires.linear r) in
    c.one_leaves_none.ensures c.if-one_leaves_none.true x y k (r 0 _ c.requires.members.some).region

pub returns-else-one_leaves_none : goal.returns-else-one_leaves_none
returns-else-one_leaves_none c = λ t x y r.
    let k = c.in-Some.ensures.kept x y (equal_sides c.args.ps.now c.args.d.now x y c.requires.linear r) in
    c.one_is_refuted.ensures t x y k r
