use Rattle.f77_expressions.proofs.ReadingLaws.{all_source}
use Rattle.f77_expressions.proofs.expressions.expression.Goals as goal

pub returns-clause-source : goal.returns-clause-source
returns-clause-source c = all_source c.read_chars.result _ c.read_chars.ensures.read
