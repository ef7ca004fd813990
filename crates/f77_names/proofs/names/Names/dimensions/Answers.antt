use Rattle.std.proofs.Common.{ap, ◌∙◌}
use Rattle.f77_names.specs.NameFacts.{dimensions_by}
use Rattle.f77_names.proofs.FactLaws.{dimensions_by_names}
use Rattle.f77_names.proofs.names.Names.dimensions.Goals as goal

pub returns-clause-exact : goal.returns-clause-exact
returns-clause-exact c us h = c.unwrap_or.ensures ∙ ap dimensions_by c.facts.ensures ∙ dimensions_by_names c.args.self.now us c.args.name h
