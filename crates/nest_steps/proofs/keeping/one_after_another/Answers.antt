use Rattle.nest_steps.proofs.KeptRuns.{one_after_another}
use Rattle.nest_steps.proofs.keeping.one_after_another.Goals as goal

pub returns : goal.returns
returns c = one_after_another
