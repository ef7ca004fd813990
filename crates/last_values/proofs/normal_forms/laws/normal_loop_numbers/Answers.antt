use Rattle.last_values.proofs.NormalForms.LoopNumbers.{normal_loop_has_numbers}
use Rattle.last_values.proofs.normal_forms.laws.normal_loop_numbers.Goals as goal

pub returns : goal.returns
returns c = normal_loop_has_numbers
