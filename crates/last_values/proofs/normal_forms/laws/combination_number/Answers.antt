use Rattle.last_values.proofs.NormalForms.Numbers.{combination_has_number}
use Rattle.last_values.proofs.normal_forms.laws.combination_number.Goals as goal

pub returns : goal.returns
returns c = combination_has_number
