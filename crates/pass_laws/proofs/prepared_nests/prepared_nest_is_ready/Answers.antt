use Rattle.pass_laws.proofs.PreparedNests.Ready.{prepared_nest_is_ready}
use Rattle.pass_laws.proofs.prepared_nests.prepared_nest_is_ready.Goals as goal

pub returns : goal.returns
returns c = prepared_nest_is_ready
