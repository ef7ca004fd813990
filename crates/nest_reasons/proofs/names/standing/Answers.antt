use Rattle.std.proofs.Common.{arith, rules}
use Rattle.std.specs.List.{list_any}
use Rattle.std.specs.Str.{bytes_eq}
use Rattle.tree.specs.View.{expression_of}
use Rattle.meaning.specs.Reads.{names_in}
use Rattle.nest_reasons.proofs.Lists.{kept}
use Rattle.nest_reasons.proofs.names.standing.Goals as goal

pub loop-variable-preserved : goal.loop-variable-preserved
loop-variable-preserved c =
    kept (λ x. list_any (λ y. bytes_eq y x) (names_in (expression_of c.args.expr.now))) c.args.variables.now c.loop-variable.variable-index c.variable-item.result
    c.contains-stands.result c.loop-variable.found c.push_if.new.names (omega arith) c.variable-item.is
    (search rules) c.loop-variable.invariant c.in_ok-push_if.ensures
