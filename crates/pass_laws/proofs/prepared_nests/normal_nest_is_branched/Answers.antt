use Rattle.pass_laws.proofs.PreparedNests.Normal.Prepared.{normal_nest_is_branched}
use Rattle.pass_laws.proofs.prepared_nests.normal_nest_is_branched.Goals as goal

pub returns : goal.returns
returns c = normal_nest_is_branched
