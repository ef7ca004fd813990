use Rattle.listing.proofs.programs.Private.{listed_nests_are_expanded}
use Rattle.listing.proofs.programs.laws.listed_nests_are_expanded.Goals as goal

pub returns : goal.returns
returns c = listed_nests_are_expanded
