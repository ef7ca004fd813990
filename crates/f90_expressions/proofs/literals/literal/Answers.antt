use Rattle.std.proofs.Common.{◌≡◌, ◌+◌, ◌*◌, get_or, Some}
use Rattle.std.specs.Char.{digit_value}
use Rattle.f90_expressions.specs.Literals.{narrow}
use Rattle.f90_expressions.proofs.LiteralLaws.{with_more}
use Rattle.f90_expressions.proofs.literals.literal.Goals as goal

pub loop-c-preserved : goal.loop-c-preserved
loop-c-preserved c =
    let i = c.loop-c.c-index in
    let e : narrow (10 * c.loop-c.value + digit_value (get_or c.args.digits.now i 0)) ≡ Some c.in-Some.more = cc in
    with_more c.args.digits.now i c.loop-c.value c.in-Some.more c.loop-c-test.true c.loop-c.invariant.0 e
