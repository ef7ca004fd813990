use Rattle.interchange.proofs.ExchangedLoops.{loops_are_exchanged}
use Rattle.interchange.proofs.Moving.{moves_are_exchanges}
use Rattle.interchange.proofs.Reached.{order_is_reached}
use Rattle.interchange.proofs.laws.order_of_loops.Goals as goal

pub returns-clause-reached : goal.returns-clause-reached
returns-clause-reached c = order_is_reached

pub returns-clause-exchanges : goal.returns-clause-exchanges
returns-clause-exchanges c = moves_are_exchanges

pub returns-clause-loops : goal.returns-clause-loops
returns-clause-loops c = loops_are_exchanged
