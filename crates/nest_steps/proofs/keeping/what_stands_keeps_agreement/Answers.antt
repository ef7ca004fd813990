use Rattle.nest_steps.proofs.KeptRuns.{what_stands_keeps_agreement}
use Rattle.nest_steps.proofs.keeping.what_stands_keeps_agreement.Goals as goal

pub returns : goal.returns
returns c = what_stands_keeps_agreement
