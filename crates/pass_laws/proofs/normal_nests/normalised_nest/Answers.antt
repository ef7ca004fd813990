use Rattle.pass_laws.proofs.NormalNests.There.{normalised_is_there}
use Rattle.pass_laws.proofs.normal_nests.normalised_nest.Goals as goal

pub returns : goal.returns
returns c = normalised_is_there
