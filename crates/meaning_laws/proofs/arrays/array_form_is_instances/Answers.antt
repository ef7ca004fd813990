use Rattle.meaning_laws.proofs.arrays.Forms.{array_form_is_instances}
use Rattle.meaning_laws.proofs.arrays.array_form_is_instances.Goals as goal

pub returns : goal.returns
returns c = array_form_is_instances
