use Rattle.std.proofs.Common.{◌≡◌, map, arith, ap, ◌∙◌}
use Rattle.std.proofs.lemmas.Grind.{common_steps}
use Rattle.tree.specs.View.{statement_of, tested_of, arms}
use Rattle.tree.specs.Plain.{block}
use Rattle.rewrite.specs.MadeBlocks as making
use Rattle.rewrite.proofs.Equations.{made_each_arm, made_each_statement}
use Rattle.rewrite.proofs.statements.+blocks.Goals as goal

pub rewrite_arms-returns-clause-made : goal.rewrite_arms-returns-clause-made
rewrite_arms-returns-clause-made g t c =
    let m = g.R.Rule.making c.args.rule.now in
    let same : map tested_of c.loop-arm.made ≡ map (making.made_arm m) (map tested_of c.args.arms.now) = grind (arith, common_steps) in
    ap arms same ∙ made_each_arm m (map tested_of c.args.arms.now)

pub rewrite_statements-returns-clause-made : goal.rewrite_statements-returns-clause-made
rewrite_statements-returns-clause-made g t c =
    let m = g.R.Rule.making c.args.rule.now in
    let same : map statement_of c.loop-stmt.made ≡ map (making.made_statement m) (map statement_of c.args.stmts.now) = grind (arith, common_steps) in
    ap block same ∙ made_each_statement m (map statement_of c.args.stmts.now)
