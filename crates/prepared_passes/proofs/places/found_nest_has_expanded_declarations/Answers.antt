use Rattle.prepared_passes.proofs.ExpandedNests.FoundExpanded.{found_nest_has_expanded_declarations}
use Rattle.prepared_passes.proofs.places.found_nest_has_expanded_declarations.Goals as goal

pub returns : goal.returns
returns c = found_nest_has_expanded_declarations
