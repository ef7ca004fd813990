use Rattle.f77_laws.proofs.SourceExpressions.{read_is_source}
use Rattle.f77_laws.proofs.laws.read_expression_is_source.Goals as goal

pub returns : goal.returns
returns c = read_is_source
