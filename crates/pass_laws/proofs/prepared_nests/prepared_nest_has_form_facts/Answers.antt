use Rattle.pass_laws.proofs.PreparedNests.FormFacts.{prepared_nest_has_form_facts}
use Rattle.pass_laws.proofs.prepared_nests.prepared_nest_has_form_facts.Goals as goal

pub returns : goal.returns
returns c = prepared_nest_has_form_facts
