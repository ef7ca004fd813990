use Rattle.translation.proofs.EmissionReady.Ready.{ready_nests_may_be_emitted}
use Rattle.translation.proofs.emission_ready.ready_nests_may_be_emitted.Goals as goal

pub returns : goal.returns
returns c = ready_nests_may_be_emitted
