use Rattle.std.proofs.Common.{ap, ◌∙◌}
use Rattle.f77_names.specs.NameFacts.{is_array_by}
use Rattle.f77_names.proofs.FactLaws.{array_by_names}
use Rattle.f77_names.proofs.names.Names.is_array.Goals as goal

pub returns-clause-exact : goal.returns-clause-exact
returns-clause-exact c us h = c.is_array.ensures ∙ ap is_array_by c.facts.ensures ∙ array_by_names c.args.self.now us c.args.name h
