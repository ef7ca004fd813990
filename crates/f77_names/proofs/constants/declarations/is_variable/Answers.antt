use Rattle.std.proofs.Common.{ap, ◌∙◌}
use Rattle.f77_names.specs.NameFacts.{is_variable_by}
use Rattle.f77_names.proofs.constants.DeclarationLaws.{variable_is}
use Rattle.f77_names.proofs.constants.declarations.is_variable.Goals as goal

pub returns : goal.returns
returns c = λ us h. c.is_variable_by.ensures ∙ ap is_variable_by c.facts.ensures ∙ variable_is c.args.names.now us c.args.name h
