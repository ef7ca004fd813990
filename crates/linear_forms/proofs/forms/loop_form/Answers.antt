use Rattle.linear_forms.proofs.Units.{loop_found}
use Rattle.linear_forms.proofs.forms.loop_form.Goals as goal

pub returns : goal.returns
returns c = λ n few h. loop_found n c.args.at few h
