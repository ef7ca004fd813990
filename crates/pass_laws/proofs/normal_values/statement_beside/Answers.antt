use Rattle.pass_laws.proofs.NormalValues.Statements.{statement_is_beside}
use Rattle.pass_laws.proofs.normal_values.statement_beside.Goals as goal

pub returns : goal.returns
returns c = statement_is_beside
