use Rattle.pass_laws.proofs.NormalValues.LastValues.{last_value_is_in_place}
use Rattle.pass_laws.proofs.normal_values.last_value_in_place.Goals as goal

pub returns : goal.returns
returns c = last_value_is_in_place
