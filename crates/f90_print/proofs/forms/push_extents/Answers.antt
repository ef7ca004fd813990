use Rattle.std.proofs.Common.{◌≡◌, ◌∷◌, arith, rules}
use Rattle.std.proofs.lemmas.Grind.{common_steps}
use Rattle.f90_print.proofs.DeclarationTexts.{extents-parts}
use Rattle.f90_print.proofs.forms.push_extents.Goals as goal

pub returns : goal.returns
returns c =
    let there : c.in-Some.first.now ∷ c.in-Some.rest.now ≡ c.args.extents.now = search rules in
    let e = extents-parts c.in-Some.first.now c.in-Some.rest.now c.args.extents.now there in grind (arith, common_steps)
