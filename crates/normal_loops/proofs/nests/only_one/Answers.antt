use Rattle.std.proofs.Common.{◌≡◌, ◌≤◌, ◌<◌, ◌++◌, ◌∷◌, [], length, sym, rules, arith}
use Rattle.std.proofs.lemmas.Grind.{common_steps}
use Rattle.normal_loops.proofs.NestLaws.{one-many, last-one}
use Rattle.normal_loops.proofs.nests.only_one.Goals as goal

pub returns-then-len-gt1 : goal.returns-then-len-gt1
returns-then-len-gt1 c =
    let many : 1 < length c.args.parts = first_of (omega arith, grind arith, search rules) in
    sym (one-many c.args.parts many)

pub returns : goal.returns
returns c =
    let few : length c.args.parts ≤ 1 = first_of (omega arith, grind arith, search rules) in
    let last : c.args.parts ≡ c.pop.new.self ++ c.in-Some.part ∷ [] = first_of (cc, search rules, grind (arith, common_steps)) in
    sym (last-one c.pop.new.self c.args.parts c.in-Some.part last few)
