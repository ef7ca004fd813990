use Rattle.prepared_passes.proofs.ConvertedNests.Standing.{converted_may_stand_for}
use Rattle.prepared_passes.proofs.conversion.converted_may_stand_for.Goals as goal

pub returns : goal.returns
returns c = converted_may_stand_for
