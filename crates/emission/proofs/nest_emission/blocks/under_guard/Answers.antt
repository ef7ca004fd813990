use Rattle.std.proofs.Common.{◌≡◌, [], ◌∷◌, arith, rules}
use Rattle.std.proofs.lemmas.Grind.{common_steps}
use Rattle.tree.specs.declared.stmts.Arm.{roll-Arm}
use Rattle.emission.proofs.nest_emission.BlockLaws.{under_ok}
use Rattle.emission.proofs.nest_emission.blocks.under_guard.Goals as goal

pub returns-in_ok-push-in-Some : goal.returns-in_ok-push-in-Some
returns-in_ok-push-in-Some c =
    let given : c.push.new.self ≡ roll-Arm (record { test = c.in_ok-test-in-Some.test; body = c.args.body }) ∷ [] = first_of (cc, search rules, grind (arith, common_steps)) in
    under_ok c.args.line c.args.guard.now c.in-Some.condition c.in_ok-test-in-Some.test c.args.body c.push.new.self c.new.result c.block_of_one.result c.in-Some.is c.in_ok-test-in-Some.ensures given c.new.ensures
    c.block_of_one.ensures
