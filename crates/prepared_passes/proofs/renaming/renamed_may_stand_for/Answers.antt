use Rattle.prepared_passes.proofs.RenamedNests.Standing.{renamed_may_stand_for}
use Rattle.prepared_passes.proofs.renaming.renamed_may_stand_for.Goals as goal

pub returns : goal.returns
returns c = renamed_may_stand_for
