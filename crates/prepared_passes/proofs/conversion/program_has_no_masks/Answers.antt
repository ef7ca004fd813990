use Rattle.prepared_passes.proofs.ConvertedNests.ProgramNames.{program_has_no_masks}
use Rattle.prepared_passes.proofs.conversion.program_has_no_masks.Goals as goal

pub returns : goal.returns
returns c = program_has_no_masks
