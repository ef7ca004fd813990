use Rattle.std.proofs.Common.{ap, ◌∙◌}
use Rattle.f77_names.specs.NameFacts.{is_function_by}
use Rattle.f77_names.proofs.FactLaws.{function_by_names}
use Rattle.f77_names.proofs.names.Names.is_function.Goals as goal

pub returns-clause-exact : goal.returns-clause-exact
returns-clause-exact c us h = c.is_function.ensures ∙ ap (λ f. is_function_by f c.args.name) c.facts.ensures ∙ function_by_names c.args.self.now us c.args.name h
