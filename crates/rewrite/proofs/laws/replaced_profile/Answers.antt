use Rattle.rewrite.proofs.ReplacedProfile.{replacing_keeps_profile}
use Rattle.rewrite.proofs.laws.replaced_profile.Goals as goal

pub returns : goal.returns
returns c = replacing_keeps_profile
