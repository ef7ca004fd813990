use Rattle.std.proofs.Common.{◌≡◌, rules, arith}
use Rattle.std.specs.Prelude.{IfOk}
use Rattle.std.proofs.lemmas.Grind.{common_steps}
use Rattle.tree.specs.View.{expression_of}
use Rattle.rewrite.specs.Substituted.{substituted}
use Rattle.rewrite.proofs.Substituted.{kept_value}
use Rattle.rewrite.proofs.substitution.substitute.Goals as goal

pub returns-clause-value : goal.returns-clause-value
returns-clause-value c =
    let exact : IfOk c.rewrite_expression.result (λ new. expression_of new ≡ substituted c.args.name (expression_of c.args.by.now) (expression_of c.args.expr)) = first_of (search rules, grind (arith, common_steps)) in
    kept_value c.args.name (expression_of c.args.by.now) (expression_of c.args.expr) c.rewrite_expression.result exact
