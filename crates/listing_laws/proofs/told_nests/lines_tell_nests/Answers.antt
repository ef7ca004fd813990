use Rattle.listing_laws.proofs.told_nests.Nests.{lines_tell_nests}
use Rattle.listing_laws.proofs.told_nests.lines_tell_nests.Goals as goal

pub returns : goal.returns
returns c = lines_tell_nests
