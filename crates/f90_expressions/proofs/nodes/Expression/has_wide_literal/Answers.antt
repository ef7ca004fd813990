use Rattle.std.proofs.Common.{List, ap, ◌∙◌}
use Rattle.std.specs.List.{list_any}
use Rattle.f90_expressions.specs.declared.nodes.Node.{Node}
use Rattle.f90_expressions.specs.Literals.{is_wide_node}
use Rattle.f90_expressions.specs.Views.{nodes_seen}
use Rattle.f90_expressions.proofs.LiteralLaws.{has_wide_is}
use Rattle.f90_expressions.proofs.nodes.Expression.has_wide_literal.Goals as goal

pub returns : goal.returns
returns c p m =
    has_wide_is c.has_wide.result c.args.self.now p (c.has_wide.ensures ∙ ap (λ (ns : List Node). list_any is_wide_node (nodes_seen ns)) c.as_slice.ensures) m
