use Rattle.pass_laws.proofs.BranchSources.Found.{found_nest_is_branched_source}
use Rattle.pass_laws.proofs.branch_sources.found_nest_is_branched_source.Goals as goal

pub returns : goal.returns
returns c = found_nest_is_branched_source
