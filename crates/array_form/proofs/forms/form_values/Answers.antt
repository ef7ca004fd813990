use Rattle.array_form.proofs.forms.Taking.{form_has_instance_values}
use Rattle.array_form.proofs.forms.form_values.Goals as goal

pub returns : goal.returns
returns c = form_has_instance_values
