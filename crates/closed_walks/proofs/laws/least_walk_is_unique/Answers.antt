use Rattle.closed_walks.proofs.Components.{least_walk_is_unique}
use Rattle.closed_walks.proofs.laws.least_walk_is_unique.Goals as goal

pub returns : goal.returns
returns c = least_walk_is_unique
