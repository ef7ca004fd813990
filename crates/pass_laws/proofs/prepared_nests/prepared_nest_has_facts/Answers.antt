use Rattle.pass_laws.proofs.PreparedNests.Facts.{prepared_nest_has_facts}
use Rattle.pass_laws.proofs.prepared_nests.prepared_nest_has_facts.Goals as goal

pub returns : goal.returns
returns c = prepared_nest_has_facts
