use Rattle.std.proofs.Common.{sym}
use Rattle.tool.proofs.MarkLaws.{no_number}
use Rattle.tool.proofs.marks.number_of.Goals as goal

pub returns-in-Err : goal.returns-in-Err
returns-in-Err c = sym (no_number c.args.digits.now c.in-Err.ensures.cases.0)
