use Rattle.std.proofs.Common.{List, ap, ◌∙◌}
use Rattle.f90_expressions.specs.declared.nodes.Node.{Node}
use Rattle.f90_expressions.specs.Views.{nodes_seen}
use Rattle.f90_statement.specs.items.parts.Variables.{is_plain}
use Rattle.f90_statement.proofs.items.OfParts.VariableLaws.{variable_told}
use Rattle.f90_statement.proofs.items.parts.variables.is_variable.Goals as goal

pub returns : goal.returns
returns c p m =
    variable_told c.is_plain.result c.args.expression.now p (c.is_plain.ensures ∙ ap (λ (ns : List Node). is_plain (nodes_seen ns)) c.as_slice.ensures) m
