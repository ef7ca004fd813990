use Rattle.emission.proofs.EmissionCauses.Causes.{loops_have_causes}
use Rattle.emission.proofs.emission_causes.causes_of_loops.Goals as goal

pub returns : goal.returns
returns c = loops_have_causes
