use Rattle.emission.proofs.EmissionForms.FormsLone.{forms_are_lone}
use Rattle.emission.proofs.emission_forms.forms_are_lone.Goals as goal

pub returns : goal.returns
returns c = forms_are_lone
