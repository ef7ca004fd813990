use Rattle.nest_order.proofs.runs.Orders.{any_order_gives_store}
use Rattle.nest_order.proofs.runs.any_order.Goals as goal

pub returns : goal.returns
returns c = any_order_gives_store
