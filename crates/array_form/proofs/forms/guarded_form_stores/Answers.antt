use Rattle.array_form.proofs.forms.Guarding.{guarded_form_stores_instances}
use Rattle.array_form.proofs.forms.Masking.{form_has_values_or_faults}
use Rattle.array_form.proofs.forms.guarded_form_stores.Goals as goal

pub returns-clause-values : goal.returns-clause-values
returns-clause-values c = form_has_values_or_faults

pub returns-clause-stores : goal.returns-clause-stores
returns-clause-stores c = guarded_form_stores_instances
