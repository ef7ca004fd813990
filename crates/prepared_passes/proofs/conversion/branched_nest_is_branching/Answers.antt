use Rattle.prepared_passes.proofs.ConvertedNests.Declared.{branched_nest_is_branching}
use Rattle.prepared_passes.proofs.conversion.branched_nest_is_branching.Goals as goal

pub returns : goal.returns
returns c = branched_nest_is_branching
