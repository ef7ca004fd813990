use Rattle.std.proofs.Common.{ap, ◌∙◌}
use Rattle.f77_names.specs.NameFacts.{is_variable_by}
use Rattle.f77_names.proofs.FactLaws.{variable_by_names}
use Rattle.f77_names.proofs.names.Names.is_variable.Goals as goal

pub returns-clause-exact : goal.returns-clause-exact
returns-clause-exact c us h = c.is_variable.ensures ∙ ap is_variable_by c.facts.ensures ∙ variable_by_names c.args.self.now us c.args.name h
