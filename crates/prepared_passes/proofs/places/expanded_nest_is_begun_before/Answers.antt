use Rattle.prepared_passes.proofs.ExpandedNests.Begun.{expanded_nest_is_begun_before}
use Rattle.prepared_passes.proofs.places.expanded_nest_is_begun_before.Goals as goal

pub returns : goal.returns
returns c = expanded_nest_is_begun_before
