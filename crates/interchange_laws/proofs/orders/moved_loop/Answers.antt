use Rattle.interchange_laws.proofs.orders.Moving.{move_is_rearranged}
use Rattle.interchange_laws.proofs.orders.moved_loop.Goals as goal

pub returns : goal.returns
returns c = move_is_rearranged
