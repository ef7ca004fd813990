use Rattle.pass_laws.proofs.NormalLoop.NormalLoops.{first_value_is_form}
use Rattle.pass_laws.proofs.normal_loop.first_value_is_form.Goals as goal

pub returns : goal.returns
returns c = first_value_is_form
