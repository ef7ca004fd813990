use Rattle.std.proofs.Common.{arith}
use Rattle.std.proofs.lemmas.Int.{ints}
use Rattle.dependence_tests.proofs.loop_lines.LinePoints.Meetings.{trip_left}
use Rattle.dependence_tests.proofs.loop_lines.line_points.line.within_trip.Goals as goal

pub returns-clause-left : goal.returns-clause-left
returns-clause-left c s =
    trip_left c.args.stretch c.at_least.result c.at_least-2.result c.args.at c.args.along c.args.trip _ _ _ _ s
    (omega (arith, ints, c.requires.along)) (omega (arith, ints, c.requires.at)) (omega (arith, ints, c.requires.along)) (omega (arith, ints, c.requires.at, c.requires.trip))
    (c.at_least.ensures.left s) (c.at_least-2.ensures.left s)
