use Rattle.listing_laws.proofs.told_nests.Cycles.{cycles_are_unique}
use Rattle.listing_laws.proofs.told_nests.cycles_are_unique.Goals as goal

pub returns : goal.returns
returns c = cycles_are_unique
