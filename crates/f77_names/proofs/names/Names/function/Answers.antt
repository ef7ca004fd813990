use Rattle.std.proofs.Common.{ap, ◌∙◌}
use Rattle.f77_names.specs.NameFacts.{function_by}
use Rattle.f77_names.proofs.FactLaws.{function_of_names}
use Rattle.f77_names.proofs.names.Names.function.Goals as goal

pub returns-clause-exact : goal.returns-clause-exact
returns-clause-exact c us h = c.function.ensures ∙ ap (λ f. function_by f c.args.name) c.facts.ensures ∙ function_of_names c.args.self.now us c.args.name h
