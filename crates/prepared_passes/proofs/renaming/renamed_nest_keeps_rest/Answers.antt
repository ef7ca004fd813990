use Rattle.prepared_passes.proofs.RenamedNests.Kept.{renamed_nest_keeps_rest}
use Rattle.prepared_passes.proofs.renaming.renamed_nest_keeps_rest.Goals as goal

pub returns : goal.returns
returns c = renamed_nest_keeps_rest
