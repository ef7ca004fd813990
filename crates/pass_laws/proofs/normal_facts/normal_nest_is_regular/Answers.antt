use Rattle.pass_laws.proofs.NormalFacts.Regular.{normal_nest_is_regular}
use Rattle.pass_laws.proofs.normal_facts.normal_nest_is_regular.Goals as goal

pub returns : goal.returns
returns c = normal_nest_is_regular
