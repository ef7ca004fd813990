use Rattle.emission.proofs.EmissionOrder.Classes.{order_is_components}
use Rattle.emission.proofs.emission_order.order_is_components.Goals as goal

pub returns : goal.returns
returns c = order_is_components
