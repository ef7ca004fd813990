use Rattle.prepared_passes.proofs.ConvertedNests.Converted.{converted_branched_nest_is_prepared}
use Rattle.prepared_passes.proofs.conversion.converted_branched_nest_is_prepared.Goals as goal

pub returns : goal.returns
returns c = converted_branched_nest_is_prepared
