use Rattle.pass_laws.proofs.FoundSources.PlainNests.{normal_nests_are_plain}
use Rattle.pass_laws.proofs.found_sources.normal_nest_is_plain.Goals as goal

pub returns : goal.returns
returns c = normal_nests_are_plain
