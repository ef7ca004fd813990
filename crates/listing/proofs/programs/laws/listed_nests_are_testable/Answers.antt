use Rattle.listing.proofs.programs.Sources.{listed_nest_is_testable}
use Rattle.listing.proofs.programs.laws.listed_nests_are_testable.Goals as goal

pub returns : goal.returns
returns c = listed_nest_is_testable
