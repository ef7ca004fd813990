use Rattle.listing_laws.proofs.told_nests.Nests.{nests_are_told}
use Rattle.listing_laws.proofs.told_nests.nests_are_told.Goals as goal

pub returns : goal.returns
returns c = nests_are_told
