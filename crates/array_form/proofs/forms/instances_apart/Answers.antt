use Rattle.array_form.proofs.forms.Whole.{instances_have_own_cells}
use Rattle.array_form.proofs.forms.instances_apart.Goals as goal

pub returns : goal.returns
returns c = instances_have_own_cells
