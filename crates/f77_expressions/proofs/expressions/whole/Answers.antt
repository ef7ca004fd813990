use Rattle.std.proofs.Common.{◌<◌, length, arith}
use Rattle.std.proofs.lemmas.Bool.Decides.{nat_tests}
use Rattle.f77_expressions.proofs.ReadingLaws.{whole_err, left_over}
use Rattle.f77_expressions.proofs.expressions.whole.Goals as goal

pub returns-else-is_empty-clause-only : goal.returns-else-is_empty-clause-only
returns-else-is_empty-clause-only c p g w =
    let l : 0 < length c.in-Ok.rest.now = grind (arith, nat_tests) in
    left_over _ (c.in-Ok.operand, c.in-Ok.rest) p c.in-Ok.ensures.only g w l

pub returns-in-Err-clause-only : goal.returns-in-Err-clause-only
returns-in-Err-clause-only c p g w = whole_err _ _ p c.in-Err.ensures.only g w
