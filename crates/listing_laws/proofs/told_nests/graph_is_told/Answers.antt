use Rattle.listing_laws.proofs.told_nests.Graphs.{graph_is_told}
use Rattle.listing_laws.proofs.told_nests.graph_is_told.Goals as goal

pub returns : goal.returns
returns c = graph_is_told
