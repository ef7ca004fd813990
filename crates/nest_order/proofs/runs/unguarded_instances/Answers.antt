use Rattle.nest_order.proofs.runs.Cells.{unguarded_instances_name_cells}
use Rattle.nest_order.proofs.runs.unguarded_instances.Goals as goal

pub returns : goal.returns
returns c = unguarded_instances_name_cells
