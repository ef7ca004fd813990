use Rattle.interchange_laws.proofs.orders.Rearranged.{rearranged_order_keeps_vectors}
use Rattle.interchange_laws.proofs.orders.rearranged_order.Goals as goal

pub returns : goal.returns
returns c = rearranged_order_keeps_vectors
