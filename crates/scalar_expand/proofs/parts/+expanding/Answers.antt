use Rattle.std.proofs.Common.{◌≡◌, map, arith, ◌∙◌}
use Rattle.std.proofs.lemmas.Grind.{common_steps}
use Rattle.nest.specs.View.{part_of}
use Rattle.scalar_expand.specs.Expanded as expanded
use Rattle.scalar_expand.proofs.PartLaws.{each_part}
use Rattle.scalar_expand.proofs.parts.+expanding.Goals as goal

pub expand_parts-returns-clause-made : goal.expand_parts-returns-clause-made
expand_parts-returns-clause-made g t c =
    let m = g.R.Rule.making c.args.rule.now in
    let same : map part_of c.loop-part.made ≡ map (expanded.expanded_part c.args.line m c.args.privates.now) (map part_of c.args.parts.now) = grind (arith, common_steps) in
    same ∙ each_part c.args.line m c.args.privates.now (map part_of c.args.parts.now)
