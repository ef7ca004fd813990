use Rattle.pass_laws.proofs.BranchSources.Found.{found_nest_keeps_meaning}
use Rattle.pass_laws.proofs.branch_sources.found_nest_keeps_meaning.Goals as goal

pub returns : goal.returns
returns c = found_nest_keeps_meaning
