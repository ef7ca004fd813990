use Rattle.closed_walks.proofs.OwnPairs.{own_pairs_change_no_order}
use Rattle.closed_walks.proofs.laws.own_pairs.Goals as goal

pub returns : goal.returns
returns c = own_pairs_change_no_order
