use Rattle.prepared_passes.proofs.ConvertedNests.FoundConverted.{found_nest_is_converted}
use Rattle.prepared_passes.proofs.conversion.found_nest_is_converted.Goals as goal

pub returns : goal.returns
returns c = found_nest_is_converted
