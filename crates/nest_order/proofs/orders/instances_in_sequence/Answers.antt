use Rattle.nest_order.proofs.orders.Theorems.{instances_in_sequence}
use Rattle.nest_order.proofs.orders.instances_in_sequence.Goals as goal

pub returns : goal.returns
returns c = instances_in_sequence
