use Rattle.nest_order.proofs.orders.Theorems.{edges_follow_sequence, sequence_keeps_edges}
use Rattle.nest_order.proofs.orders.edges_in_sequence.Goals as goal

pub returns-clause-follow : goal.returns-clause-follow
returns-clause-follow c = edges_follow_sequence

pub returns-clause-keeps : goal.returns-clause-keeps
returns-clause-keeps c = sequence_keeps_edges
