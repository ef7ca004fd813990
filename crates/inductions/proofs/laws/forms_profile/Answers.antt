use Rattle.inductions.proofs.Profile.{forms_keep_profile}
use Rattle.inductions.proofs.laws.forms_profile.Goals as goal

pub returns : goal.returns
returns c = forms_keep_profile
