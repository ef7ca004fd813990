use Rattle.prepared_passes.proofs.RenamedNests.Runs.{renamed_nest_goes_on_as_nest}
use Rattle.prepared_passes.proofs.renaming.renamed_nest_goes_on_as_nest.Goals as goal

pub returns : goal.returns
returns c = renamed_nest_goes_on_as_nest
