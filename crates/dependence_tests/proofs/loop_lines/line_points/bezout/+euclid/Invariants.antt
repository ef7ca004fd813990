use Rattle.std.specs.Prelude.{unsigned_abs}
use Rattle.dependence_tests.proofs.loop_lines.line_points.bezout.+euclid.Given as goal

abbrev pub decreases-euclid : goal.decreases-euclid
decreases-euclid l = unsigned_abs l.b
