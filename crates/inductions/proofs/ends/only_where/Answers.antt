use Rattle.std.proofs.Common.{◌≡◌, [], ◌∷◌, rules, arith}
use Rattle.std.proofs.lemmas.Grind.{common_steps}
use Rattle.tree.specs.declared.stmts.Arm.{roll-Arm}
use Rattle.tree.specs.declared.stmts.Block.{roll-Block}
use Rattle.last_values.proofs.MadeLaws.{only_where_is}
use Rattle.inductions.proofs.ends.only_where.Goals as goal

pub returns : goal.returns
returns c =
    let one : c.push.new.self ≡ roll-Arm (record { test = c.args.test; body = roll-Block (record { stmts = c.args.stmts }) }) ∷ [] = first_of (search rules, grind (arith, common_steps)) in
    only_where_is c.args.line c.args.test c.args.stmts c.new.result c.push.new.self one c.new.ensures
