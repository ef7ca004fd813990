use Rattle.prepared_passes.proofs.SplitNests.Runs.{split_nest_goes_on_as_nest}
use Rattle.prepared_passes.proofs.splitting.split_nest_goes_on_as_nest.Goals as goal

pub returns : goal.returns
returns c = split_nest_goes_on_as_nest
