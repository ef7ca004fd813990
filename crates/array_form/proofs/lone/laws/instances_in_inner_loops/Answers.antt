use Rattle.array_form.proofs.lone.Instances.{guarded_instances_of_array_forms, instances_of_array_forms}
use Rattle.array_form.proofs.lone.laws.instances_in_inner_loops.Goals as goal

pub returns-clause-guarded : goal.returns-clause-guarded
returns-clause-guarded c = guarded_instances_of_array_forms

pub returns-clause-unguarded : goal.returns-clause-unguarded
returns-clause-unguarded c = instances_of_array_forms
