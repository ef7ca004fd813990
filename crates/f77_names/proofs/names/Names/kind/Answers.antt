use Rattle.std.proofs.Common.{ap, ◌∙◌}
use Rattle.f77_names.specs.NameFacts.{kind_by}
use Rattle.f77_names.proofs.FactLaws.{kind_by_names, or_integer_is}
use Rattle.f77_names.proofs.names.Names.kind.Goals as goal

pub returns-clause-exact : goal.returns-clause-exact
returns-clause-exact c us h = c.unwrap_or.ensures ∙ or_integer_is c.facts.result.kind ∙ ap kind_by c.facts.ensures ∙ kind_by_names c.args.self.now us c.args.name h
