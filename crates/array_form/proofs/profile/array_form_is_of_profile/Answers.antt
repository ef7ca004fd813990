use Rattle.array_form.proofs.profile.Assigned.{array_forms_of_profile}
use Rattle.array_form.proofs.profile.array_form_is_of_profile.Goals as goal

pub returns : goal.returns
returns c = array_forms_of_profile
