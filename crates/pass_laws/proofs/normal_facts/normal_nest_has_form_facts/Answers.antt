use Rattle.pass_laws.proofs.NormalFacts.FormFacts.{form_facts}
use Rattle.pass_laws.proofs.normal_facts.normal_nest_has_form_facts.Goals as goal

pub returns : goal.returns
returns c width p n m w is found normal plain set = form_facts width p n m w is found normal plain set
