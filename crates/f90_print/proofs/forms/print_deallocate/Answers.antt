use Rattle.std.proofs.Common.{◌≡◌, ◌++◌, arith, codes}
use Rattle.std.proofs.lemmas.Grind.{common_steps}
use Rattle.f90_print.proofs.forms.print_deallocate.Goals as goal

pub returns : goal.returns
returns c =
    let name : c.push-2.new.text.items ≡ codes "DEALLOCATE (" ++ c.args.name = grind (arith, common_steps) in
    grind (arith, common_steps)
