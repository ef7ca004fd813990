use Rattle.pass_laws.proofs.PreparedNests.Normal.Prepared.{normal_nest_is_prepared}
use Rattle.pass_laws.proofs.prepared_nests.normal_nest_is_prepared.Goals as goal

pub returns : goal.returns
returns c = normal_nest_is_prepared
