use Rattle.listing.proofs.arrays.Left.{arranged_nest_has_no_private_scalars}
use Rattle.listing.proofs.arrays.arranged_nest_has_no_private_scalars.Goals as goal

pub returns : goal.returns
returns c = arranged_nest_has_no_private_scalars
