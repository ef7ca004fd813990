use Rattle.std.specs.Prelude.{FitsSigned}
use Rattle.std.proofs.lemmas.Int.{to_z-of_z}
use mir.Syntax.{w128}
use Rattle.dependence_tests.proofs.gcd_banerjee.TermValues.{least_of_along}
use Rattle.dependence_tests.proofs.gcd_banerjee.terms.least_along.Goals as goal

pub returns-clause-least : goal.returns-clause-least
returns-clause-least c =
    let f : FitsSigned w128 c.args.c = c.ranges.c in
    least_of_along c.args.c c.args.last c.steps_from.result c.least_over.result c.steps_from.ensures.steps (simp to_z-of_z at c.least_over.ensures.least)
