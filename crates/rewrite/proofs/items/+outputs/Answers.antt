use Rattle.std.proofs.Common.{◌≡◌, map, arith, ap, ◌∙◌}
use Rattle.std.proofs.lemmas.Grind.{common_steps}
use Rattle.tree.specs.View.{item_of}
use Rattle.tree.specs.Plain.{items}
use Rattle.rewrite.specs.MadeBlocks as making
use Rattle.rewrite.proofs.Equations.{made_each_output}
use Rattle.rewrite.proofs.items.+outputs.Goals as goal

pub rewrite_outputs-returns-clause-made : goal.rewrite_outputs-returns-clause-made
rewrite_outputs-returns-clause-made g t c =
    let m = g.R.Rule.making c.args.rule.now in
    let same : map item_of c.loop-item.made ≡ map (making.made_output m) (map item_of c.args.list.now) = grind (arith, common_steps) in
    ap items same ∙ made_each_output m (map item_of c.args.list.now)
