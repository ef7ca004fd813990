use Rattle.pass_laws.proofs.NormalFacts.Facts.{facts}
use Rattle.pass_laws.proofs.normal_facts.normal_nest_has_facts.Goals as goal

pub returns : goal.returns
returns c width p n m w is found normal plain set = facts width p n m w is found normal plain set
