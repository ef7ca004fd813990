use Rattle.pass_laws.proofs.PreparedNests.Emitted.{prepared_nest_may_be_emitted}
use Rattle.pass_laws.proofs.prepared_nests.prepared_nest_may_be_emitted.Goals as goal

pub returns : goal.returns
returns c = prepared_nest_may_be_emitted
