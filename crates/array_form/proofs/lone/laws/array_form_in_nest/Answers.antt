use Rattle.array_form.proofs.lone.Composed.{array_form_is_form}
use Rattle.array_form.proofs.lone.laws.array_form_in_nest.Goals as goal

pub returns : goal.returns
returns c width = array_form_is_form width (c.guarded_form_stores.ensures.stores width)
