use Rattle.tool.proofs.MarkLaws.{stripped}
use Rattle.tool.proofs.marks.behind.Goals as goal

pub returns : goal.returns
returns c = stripped c.args.front.now c.args.line.now c.strip_prefix.result c.strip_prefix.ensures.cases
