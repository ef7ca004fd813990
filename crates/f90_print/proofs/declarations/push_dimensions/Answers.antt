use Rattle.std.proofs.Common.{◌≡◌, ◌∷◌, arith, rules}
use Rattle.std.proofs.lemmas.Grind.{common_steps}
use Rattle.f90_print.proofs.DeclarationTexts.{dimensions-parts}
use Rattle.f90_print.proofs.declarations.push_dimensions.Goals as goal

pub returns : goal.returns
returns c =
    let there : c.in-Some.first.now ∷ c.in-Some.rest.now ≡ c.args.dims.now = search rules in
    let e = dimensions-parts c.in-Some.first.now c.in-Some.rest.now c.args.dims.now there in grind (arith, common_steps)
