use Rattle.pass_laws.proofs.PreparedNests.Regular.{prepared_nest_is_regular}
use Rattle.pass_laws.proofs.prepared_nests.prepared_nest_is_regular.Goals as goal

pub returns : goal.returns
returns c = prepared_nest_is_regular
