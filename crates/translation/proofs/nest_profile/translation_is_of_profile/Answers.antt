use Rattle.translation.proofs.NestProfile.Law.{translation_is_of_profile}
use Rattle.translation.proofs.nest_profile.translation_is_of_profile.Goals as goal

pub returns : goal.returns
returns c = translation_is_of_profile
