use Rattle.nest_order.proofs.runs.Alone.{inner_instances_are_apart}
use Rattle.nest_order.proofs.runs.statement_alone.Goals as goal

pub returns : goal.returns
returns c = inner_instances_are_apart
