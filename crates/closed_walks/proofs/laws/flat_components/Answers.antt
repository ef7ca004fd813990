use Rattle.closed_walks.proofs.FlatComponents.{nested_is_flat}
use Rattle.closed_walks.proofs.laws.flat_components.Goals as goal

pub returns : goal.returns
returns c = nested_is_flat
