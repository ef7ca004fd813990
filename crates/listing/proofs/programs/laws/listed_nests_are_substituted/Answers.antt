use Rattle.listing.proofs.programs.Inductions.{listed_nests_are_substituted}
use Rattle.listing.proofs.programs.laws.listed_nests_are_substituted.Goals as goal

pub returns : goal.returns
returns c = listed_nests_are_substituted
