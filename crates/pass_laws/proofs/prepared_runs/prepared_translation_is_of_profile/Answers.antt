use Rattle.pass_laws.proofs.PreparedRuns.Profile.{prepared_translation_is_of_profile}
use Rattle.pass_laws.proofs.prepared_runs.prepared_translation_is_of_profile.Goals as goal

pub returns : goal.returns
returns c = prepared_translation_is_of_profile
