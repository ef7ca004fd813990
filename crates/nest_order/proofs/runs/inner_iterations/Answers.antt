use Rattle.nest_order.proofs.runs.Arrays.{outer_iterations_hold}
use Rattle.nest_order.proofs.runs.inner_iterations.Goals as goal

pub returns : goal.returns
returns c = outer_iterations_hold
