use Rattle.prepared_passes.proofs.ExpandedNests.Guarded.{expanded_nest_has_guarded_names}
use Rattle.prepared_passes.proofs.places.expanded_nest_has_guarded_names.Goals as goal

pub returns : goal.returns
returns c = expanded_nest_has_guarded_names
