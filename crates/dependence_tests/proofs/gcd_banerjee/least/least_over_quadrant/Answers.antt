use Rattle.std.proofs.Common.{arith}
use Rattle.std.specs.Prelude.{FitsSigned}
use Rattle.std.proofs.lemmas.Int.{ints, to_z-of_z}
use mir.Syntax.{w128}
use Rattle.dependence_tests.proofs.gcd_banerjee.Triangles.{falls_first, falls_second, least_origin}
use Rattle.dependence_tests.proofs.gcd_banerjee.least.least_over_quadrant.Goals as goal

pub returns-then-c-lt0-clause-least : goal.returns-then-c-lt0-clause-least
returns-then-c-lt0-clause-least c = falls_first c.args.base c.args.c c.args.d (omega (arith, ints))

pub returns-then-d-lt0-clause-least : goal.returns-then-d-lt0-clause-least
returns-then-d-lt0-clause-least c = falls_second c.args.base c.args.c c.args.d (omega (arith, ints))

pub returns-clause-least : goal.returns-clause-least
returns-clause-least c =
    let b : FitsSigned w128 c.args.base = c.ranges.base in
    simp to_z-of_z (least_origin c.args.base c.args.c c.args.d (omega (arith, ints)) (omega (arith, ints)))
