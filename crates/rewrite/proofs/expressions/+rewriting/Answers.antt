use Rattle.std.proofs.Common.{◌≡◌, map, arith, ap, ◌∙◌}
use Rattle.std.proofs.lemmas.Grind.{common_steps}
use Rattle.tree.specs.View.{expression_of, subscript_of, loop_of, constructor_loops}
use Rattle.tree.specs.Plain.{expressions, subscripts}
use Rattle.rewrite.specs.Making as making
use Rattle.rewrite.specs.MadeBlocks as made_blocks
use Rattle.rewrite.proofs.Equations.{made_each, made_each_subscript, made_each_loop}
use Rattle.rewrite.proofs.expressions.+rewriting.Goals as goal

pub rewrite_all-returns-clause-made : goal.rewrite_all-returns-clause-made
rewrite_all-returns-clause-made g t c =
    let m = g.R.NodeRule.making c.args.rule.now in
    let same : map expression_of c.loop-expr.made ≡ map (making.made m) (map expression_of c.args.exprs.now) = grind (arith, common_steps) in
    ap expressions same ∙ made_each m (map expression_of c.args.exprs.now)

pub rewrite_turns-returns-clause-made : goal.rewrite_turns-returns-clause-made
rewrite_turns-returns-clause-made g t c =
    let m = g.R.NodeRule.making c.args.rule.now in
    let same : map loop_of c.loop-turn.made ≡ map (made_blocks.made_loop m) (map loop_of c.args.turns.now) = grind (arith, common_steps) in
    ap constructor_loops same ∙ made_each_loop m (map loop_of c.args.turns.now)

pub rewrite_subscripts-returns-clause-made : goal.rewrite_subscripts-returns-clause-made
rewrite_subscripts-returns-clause-made g t c =
    let m = g.R.NodeRule.making c.args.rule.now in
    let same : map subscript_of c.loop-sub.made ≡ map (making.made_subscript m) (map subscript_of c.args.subs.now) = grind (arith, common_steps) in
    ap subscripts same ∙ made_each_subscript m (map subscript_of c.args.subs.now)
