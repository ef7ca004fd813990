use Rattle.std.proofs.Common.{◌≤◌, ◌<◌, length, arith}
use Rattle.std.proofs.lemmas.Bool.Decides.{nat_tests}
use Rattle.f77_statement.proofs.EntityLaws.{entity_found, too_many}
use Rattle.f77_statement.proofs.declarations.bounded.Goals as goal

pub returns-then-len-gt-ARRAY_DIMENSIONS-clause-only : goal.returns-then-len-gt-ARRAY_DIMENSIONS-clause-only
returns-then-len-gt-ARRAY_DIMENSIONS-clause-only c bs last g n s =
    let m : 7 < length c.in_ok-dims.dims = grind (arith, nat_tests) in
    too_many c.in_ok-dims.dims bs _ _ _ (c.in_ok-dims.ensures.only bs _ g tt s) m n

pub returns-clause-found : goal.returns-clause-found
returns-clause-found c =
    let m : length c.in_ok-dims.dims ≤ 7 = grind (arith, nat_tests) in
    entity_found c.args.name c.in_ok-dims.dims _ _ _ _ c.in_ok-dims.ensures.found c.in-Some.ensures m
