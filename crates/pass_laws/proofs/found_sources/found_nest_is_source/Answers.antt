use Rattle.pass_laws.proofs.FoundSources.FoundSources.{found_nests_are_sources}
use Rattle.pass_laws.proofs.found_sources.found_nest_is_source.Goals as goal

pub returns : goal.returns
returns c = found_nests_are_sources
