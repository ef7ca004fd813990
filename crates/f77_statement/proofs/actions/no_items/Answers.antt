use Rattle.std.proofs.Common.{refl}
use Rattle.f77_grammar.specs.statements.Forms as forms
use Rattle.f77_statement.proofs.ActionLaws.{print_nothing}
use Rattle.f77_statement.proofs.actions.no_items.Goals as goal

pub returns : goal.returns
returns c = c.bare.ensures forms.PrintNothing (print_nothing _ c.new.ensures) refl refl
