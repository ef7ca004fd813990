use Rattle.nest_order.proofs.runs.Lone.{lone_forms_are_instances, lone_forms_keep_meaning}
use Rattle.nest_order.proofs.runs.lone_forms.Goals as goal

pub returns-clause-instances : goal.returns-clause-instances
returns-clause-instances c = lone_forms_are_instances

pub returns-clause-meaning : goal.returns-clause-meaning
returns-clause-meaning c = lone_forms_keep_meaning
