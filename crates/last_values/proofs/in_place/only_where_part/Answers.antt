use Rattle.std.proofs.Common.{◌≡◌, [], ◌∷◌, rules, arith}
use Rattle.std.proofs.lemmas.Grind.{common_steps}
use Rattle.nest.specs.declared.parts.NestArm.{roll-NestArm}
use Rattle.last_values.proofs.MadeLaws.{only_where_part_is}
use Rattle.last_values.proofs.in_place.only_where_part.Goals as goal

pub returns : goal.returns
returns c =
    let one : c.push.new.self ≡ roll-NestArm (record { test = c.args.test; body = c.args.body }) ∷ [] = first_of (search rules, grind (arith, common_steps)) in
    only_where_part_is c.args.test c.args.body c.new.result c.push.new.self one c.new.ensures
