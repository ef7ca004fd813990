use Rattle.std.proofs.Common.{ap, ◌∙◌}
use Rattle.f77_grammar.specs.program.Uses.{or_integer}
use Rattle.f77_names.specs.declared.names.Facts.{Facts}
use Rattle.f77_names.proofs.constants.DeclarationLaws.{kind_is}
use Rattle.f77_names.proofs.constants.declarations.kind_of.Goals as goal

pub returns : goal.returns
returns c = λ us h. c.kind_or_integer.ensures ∙ ap (λ (f : Facts). or_integer f.kind) c.facts.ensures ∙ kind_is c.args.names.now us c.args.name h
