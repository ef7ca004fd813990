use Rattle.prepared_passes.proofs.ArrangedNests.GoesOn.{arranged_nest_goes_on_as_nest}
use Rattle.prepared_passes.proofs.arrangement.arranged_nest_goes_on_as_nest.Goals as goal

pub returns : goal.returns
returns c = arranged_nest_goes_on_as_nest
