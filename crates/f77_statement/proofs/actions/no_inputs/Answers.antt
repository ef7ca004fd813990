use Rattle.std.proofs.Common.{refl}
use Rattle.f77_grammar.specs.statements.Forms as forms
use Rattle.f77_statement.proofs.ActionLaws.{read_nothing}
use Rattle.f77_statement.proofs.actions.no_inputs.Goals as goal

pub returns : goal.returns
returns c = c.bare.ensures forms.ReadNothing (read_nothing _ c.new.ensures) refl refl
