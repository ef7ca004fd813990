use Rattle.pass_laws.proofs.NormalValues.Bounds.{bounds_are_beside}
use Rattle.pass_laws.proofs.normal_values.bounds_beside.Goals as goal

pub returns : goal.returns
returns c = bounds_are_beside
