use Rattle.array_form.proofs.forms.Whole.{array_form_stores_instances}
use Rattle.array_form.proofs.forms.array_form_stores.Goals as goal

pub returns : goal.returns
returns c = array_form_stores_instances
