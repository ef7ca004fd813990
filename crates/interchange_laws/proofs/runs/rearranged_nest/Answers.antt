use Rattle.interchange_laws.proofs.runs.OtherNest.{rearranged_nest_is_nest}
use Rattle.interchange_laws.proofs.runs.rearranged_nest.Goals as goal

pub returns : goal.returns
returns c = rearranged_nest_is_nest
