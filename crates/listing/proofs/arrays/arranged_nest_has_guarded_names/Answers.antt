use Rattle.listing.proofs.arrays.GuardedNames.{arranged_nest_has_guarded_names}
use Rattle.listing.proofs.arrays.arranged_nest_has_guarded_names.Goals as goal

pub returns : goal.returns
returns c = arranged_nest_has_guarded_names
