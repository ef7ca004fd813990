use Rattle.prepared_passes.proofs.RenamedNests.Prepared.{renamed_nest_is_prepared}
use Rattle.prepared_passes.proofs.renaming.renamed_nest_is_prepared.Goals as goal

pub returns : goal.returns
returns c = renamed_nest_is_prepared
