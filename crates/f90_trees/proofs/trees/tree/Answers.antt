use Rattle.std.proofs.Common.{Ok, Option, [], subst}
use Rattle.tree.specs.declared.exprs.Expr.{Expr}
use Rattle.f90_expressions.specs.Views.{nodes_seen}
use Rattle.f90_trees.specs.Building.{build_all}
use Rattle.f90_trees.specs.Hiding.{function_in}
use Rattle.f90_trees.specs.Views.{Makes}
use Rattle.f90_trees.proofs.TreeLaws.{unmade_at}
use Rattle.f90_trees.proofs.trees.tree.Goals as goal

pub unreachable-requires : goal.unreachable-requires
unreachable-requires c =
    unmade_at c.as_slice.result.now c.args.expression.now c.args.functions.now c.as_slice.ensures c.requires
    (subst (λ (o : Option Expr). Makes (Ok o) (build_all (function_in c.args.functions.now) (nodes_seen c.as_slice.result.now) [])) c.in_default.is c.in_ok-expr.ensures)
