use Rattle.nest_order.proofs.orders.Theorems.{emission_arranges, emission_keeps_edges}
use Rattle.nest_order.proofs.orders.recursive_emission.Goals as goal

pub returns-clause-arranges : goal.returns-clause-arranges
returns-clause-arranges c = emission_arranges

pub returns-clause-keeps : goal.returns-clause-keeps
returns-clause-keeps c = emission_keeps_edges
