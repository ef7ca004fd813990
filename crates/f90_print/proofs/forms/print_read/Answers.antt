use Rattle.std.proofs.Common.{◌≡◌, [], arith}
use Rattle.std.proofs.lemmas.Grind.{common_steps}
use Rattle.f90_print.proofs.StatementTexts.{read-none, read-some}
use Rattle.f90_print.proofs.forms.print_read.Goals as goal

pub returns-then-is_empty : goal.returns-then-is_empty
returns-then-is_empty c =
    let none : c.args.list.now ≡ [] = grind (arith, common_steps) in
    let e = read-none c.args.list.now none in grind (arith, common_steps)

pub returns : goal.returns
returns c =
    let some : c.args.list.now ≡ [] → ⊥ = grind (arith, common_steps) in
    let e = read-some c.args.list.now some in grind (arith, common_steps)
