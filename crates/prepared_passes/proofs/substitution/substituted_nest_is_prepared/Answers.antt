use Rattle.prepared_passes.proofs.SubstitutedNests.Prepared.{substituted_nest_is_prepared}
use Rattle.prepared_passes.proofs.substitution.substituted_nest_is_prepared.Goals as goal

pub returns : goal.returns
returns c = substituted_nest_is_prepared
