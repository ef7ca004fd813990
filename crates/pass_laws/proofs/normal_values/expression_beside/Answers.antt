use Rattle.pass_laws.proofs.NormalValues.Chains.{expression_is_beside}
use Rattle.pass_laws.proofs.normal_values.expression_beside.Goals as goal

pub returns : goal.returns
returns c = expression_is_beside
