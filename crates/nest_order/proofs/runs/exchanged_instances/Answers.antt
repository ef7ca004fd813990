use Rattle.nest_order.proofs.runs.Orders.{instances_may_pass}
use Rattle.nest_order.proofs.runs.exchanged_instances.Goals as goal

pub returns : goal.returns
returns c = instances_may_pass
