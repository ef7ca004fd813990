use Rattle.listing.proofs.programs.Causes.{listed_nests_have_causes}
use Rattle.listing.proofs.programs.laws.listed_nests_have_causes.Goals as goal

pub returns : goal.returns
returns c = listed_nests_have_causes
