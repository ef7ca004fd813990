use Rattle.prepared_passes.proofs.RenamedNests.Fresh.{names_are_fresh}
use Rattle.prepared_passes.proofs.renaming.names_are_fresh.Goals as goal

pub returns : goal.returns
returns c = names_are_fresh
