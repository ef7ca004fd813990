use Rattle.std.proofs.Common.{rules, ◌≡◌, ap}
use Rattle.std.specs.Prelude.{FitsSigned}
use Rattle.std.proofs.lemmas.Int.{to_z-of_z}
use mir.Syntax.{w128}
use Rattle.dependence_tests.proofs.gcd_banerjee.Differences.{least_difference}
use Rattle.dependence_tests.specs.gcd_banerjee.Extremes.{turned}
use Rattle.dependence_tests.proofs.gcd_banerjee.extremes.least_difference.Goals as goal

pub returns : goal.returns
returns c =
    let f : FitsSigned w128 c.args.constant = c.ranges.constant in
    let g : FitsSigned w128 c.turned.result = search rules in
    let x : c.turned.result ≡ turned c.args.opposite c.args.constant = simp to_z-of_z at c.turned.ensures in
    let h = simp to_z-of_z at c.plus.ensures in
    rw (h, c.plus-linear.ensures, x)
    (least_difference c.args.p.now c.args.d.now c.args.constant c.args.opposite c.least_of_loops.result c.least_of_symbols.result c.least_of_loops.ensures.least (c.least_of_symbols.ensures.least c.args.opposite))
