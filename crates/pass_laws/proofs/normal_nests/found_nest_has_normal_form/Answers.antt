use Rattle.pass_laws.proofs.NormalNests.Form.{found_nest_has_normal_form}
use Rattle.pass_laws.proofs.normal_nests.found_nest_has_normal_form.Goals as goal

pub returns : goal.returns
returns c = found_nest_has_normal_form
