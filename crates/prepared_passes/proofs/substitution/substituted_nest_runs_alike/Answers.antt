use Rattle.prepared_passes.proofs.SubstitutedNests.Runs.{substituted_nest_runs_alike}
use Rattle.prepared_passes.proofs.substitution.substituted_nest_runs_alike.Goals as goal

pub returns : goal.returns
returns c = substituted_nest_runs_alike
