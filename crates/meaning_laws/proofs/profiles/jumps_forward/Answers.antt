use Rattle.meaning_laws.proofs.profiles.Forward.{source_jumps_forward, target_jumps_forward}
use Rattle.meaning_laws.proofs.profiles.jumps_forward.Goals as goal

pub returns-clause-source : goal.returns-clause-source
returns-clause-source c = source_jumps_forward

pub returns-clause-target : goal.returns-clause-target
returns-clause-target c = target_jumps_forward
