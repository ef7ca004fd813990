use Rattle.std.proofs.Common.{List, ap, ◌∙◌}
use Rattle.f90_expressions.specs.declared.nodes.Node.{Node}
use Rattle.f90_expressions.specs.Views.{nodes_seen}
use Rattle.f90_statement.specs.items.parts.Variables.{is_named}
use Rattle.f90_statement.proofs.items.OfParts.VariableLaws.{reference_told}
use Rattle.f90_statement.proofs.items.parts.variables.is_reference.Goals as goal

pub returns : goal.returns
returns c p m =
    reference_told c.is_named.result c.args.expression.now p (c.is_named.ensures ∙ ap (λ (ns : List Node). is_named (nodes_seen ns)) c.as_slice.ensures) m
