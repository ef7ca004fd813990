use Rattle.std.proofs.Common.{◌≡◌, ◌-◌, get_or}
use Rattle.f90_lines.proofs.MarkLaws.{value_more}
use Rattle.f90_lines.proofs.marks.value.Goals as goal

pub loop-digit-preserved : goal.loop-digit-preserved
loop-digit-preserved c =
    let at = c.loop-digit.digit-index in
    let e : c.from.result ≡ get_or c.args.digits.now at 0 - 48 = cc in
    value_more c.args.digits.now at c.loop-digit.value c.from.result c.loop-digit-test.true c.requires.digits e c.loop-digit.invariant.0
    c.loop-digit.invariant.1
