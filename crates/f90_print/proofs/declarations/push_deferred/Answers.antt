use Rattle.std.proofs.Common.{◌≡◌, arith}
use Rattle.std.proofs.lemmas.Grind.{common_steps}
use Rattle.f90_print.proofs.DeclarationTexts.{colons, colons-more}
use Rattle.f90_print.proofs.declarations.push_deferred.Goals as goal

pub loop-written-preserved : goal.loop-written-preserved
loop-written-preserved c = let e = colons-more c.loop-written._written in grind (arith, common_steps)

pub returns : goal.returns
returns c =
    let some : c.args.count ≡ 0 → ⊥ = λ h. omega arith in
    let e = colons c.args.count some in grind (arith, common_steps)
