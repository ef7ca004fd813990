use Rattle.last_values.proofs.NormalForms.BoundNumbers.{bound_has_number}
use Rattle.last_values.proofs.normal_forms.laws.bound_number.Goals as goal

pub returns : goal.returns
returns c = bound_has_number
