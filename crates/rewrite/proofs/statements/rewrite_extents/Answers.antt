use Rattle.std.proofs.Common.{◌≡◌, map, arith, ap, ◌∙◌}
use Rattle.std.proofs.lemmas.Grind.{common_steps}
use Rattle.tree.specs.View.{expression_of}
use Rattle.tree.specs.Plain.{expressions}
use Rattle.rewrite.specs.Making as making
use Rattle.rewrite.proofs.Equations.{made_each}
use Rattle.rewrite.proofs.statements.rewrite_extents.Goals as goal

pub returns-clause-made : goal.returns-clause-made
returns-clause-made g c =
    let m = g.R.Rule.making c.args.rule.now in
    let same : map expression_of c.loop-extent.made ≡ map (making.made m) (map expression_of c.args.extents.now) = grind (arith, common_steps) in
    ap expressions same ∙ made_each m (map expression_of c.args.extents.now)
