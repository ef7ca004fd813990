use Rattle.std.proofs.Common.{◌≡◌, [], ◌∷◌, arith, rules}
use Rattle.std.proofs.lemmas.Grind.{common_steps}
use Rattle.tree.specs.declared.stmts.Arm.{roll-Arm}
use Rattle.array_form.proofs.StatementLaws.{if_ok}
use Rattle.array_form.proofs.statements.under_condition.Goals as goal

pub returns-in_ok-push-in-Some : goal.returns-in_ok-push-in-Some
returns-in_ok-push-in-Some c =
    let given : c.push.new.self ≡ roll-Arm (record { test = c.in-Some.test; body = c.args.body }) ∷ [] = first_of (cc, search rules, grind (arith, common_steps)) in
    if_ok c.args.line c.in-Some.test c.args.body c.push.new.self c.new.result c.args.condition c.block_of_one.result c.in-Some.is given c.new.ensures c.block_of_one.ensures
