use Rattle.std.proofs.Common.{arith}
use Rattle.std.proofs.lemmas.Int.{ints}
use Rattle.dependence_tests.proofs.loop_lines.LinePoints.Meetings.{before_left, after_left, same_left}
use Rattle.dependence_tests.proofs.loop_lines.line_points.line.related.Goals as goal

pub returns-in-Lt-clause-left : goal.returns-in-Lt-clause-left
returns-in-Lt-clause-left c s =
    rw c.in-Lt.is (before_left c.args.stretch c.at_least.result c.args.points.i c.args.points.j c.args.points.along_i c.args.points.along_j _ _ s
    (omega (arith, ints)) (omega (arith, ints)) (c.at_least.ensures.left s))

pub returns-in-Eq-clause-left : goal.returns-in-Eq-clause-left
returns-in-Eq-clause-left c s =
    rw c.in-Eq.is (same_left c.args.stretch c.at_least-in-Eq.result c.at_least-in-Eq-2.result c.args.points.i c.args.points.j c.args.points.along_i c.args.points.along_j _ _ _ _ s
    (omega (arith, ints)) (omega (arith, ints)) (omega (arith, ints)) (omega (arith, ints)) (c.at_least-in-Eq.ensures.left s) (c.at_least-in-Eq-2.ensures.left s))

pub returns-in-Gt-clause-left : goal.returns-in-Gt-clause-left
returns-in-Gt-clause-left c s =
    rw c.in-Gt.is (after_left c.args.stretch c.at_least-in-Gt.result c.args.points.i c.args.points.j c.args.points.along_i c.args.points.along_j _ _ s
    (omega (arith, ints)) (omega (arith, ints)) (c.at_least-in-Gt.ensures.left s))
