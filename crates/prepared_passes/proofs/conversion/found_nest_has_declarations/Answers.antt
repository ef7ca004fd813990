use Rattle.prepared_passes.proofs.ConvertedNests.FoundDeclared.{found_nest_has_declarations}
use Rattle.prepared_passes.proofs.conversion.found_nest_has_declarations.Goals as goal

pub returns : goal.returns
returns c = found_nest_has_declarations
