use Rattle.std.proofs.Common.{rules, ◌≡◌}
use Rattle.std.specs.Prelude.{FitsSigned}
use Rattle.std.proofs.lemmas.Int.{to_z-of_z}
use mir.Syntax.{w64, w128}
use Rattle.dependence_tests.specs.delta_test.IterationsLeft.{IsLeastLeft}
use Rattle.direction_vectors.proofs.vector_tests.least.leaves_some.Goals as goal

pub returns-in-Some : goal.returns-in-Some
returns-in-Some c =
    let ft : FitsSigned w64 c.args.trip = search rules in
    let ff : FitsSigned w128 c.from.result = search rules in
    let et : c.from.result ≡ c.args.trip = simp to_z-of_z at c.from.ensures in
    let least : IsLeastLeft c.args.left c.from.result c.args.dir c.in-Some.field-0.i c.in-Some.field-0.j = simp to_z-of_z at c.in-Some.ensures in
    λ e. (c.in-Some.field-0.i, (c.in-Some.field-0.j, rw et at least))
