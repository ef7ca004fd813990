use Rattle.std.proofs.Common.{◌≡◌, map, arith, ap, ◌∙◌}
use Rattle.std.proofs.lemmas.Grind.{common_steps}
use Rattle.nest.specs.Plain.{parts}
use Rattle.nest.specs.View.{part_of, branch_of, branches}
use Rattle.nest_rewrite.specs.Rewritten as rewritten
use Rattle.nest_rewrite.proofs.Each.{each_part, each_branch}
use Rattle.nest_rewrite.proofs.parts.+rewriting_parts.Goals as goal

pub rewrite_arms-returns-clause-made : goal.rewrite_arms-returns-clause-made
rewrite_arms-returns-clause-made g t c =
    let m = g.R.Rule.making c.args.rule.now in
    let same : map branch_of c.loop-arm.made ≡ map (rewritten.rewritten_branch m) (map branch_of c.args.arms.now) = grind (arith, common_steps) in
    ap branches same ∙ each_branch m (map branch_of c.args.arms.now)

pub rewrite_parts-returns-clause-made : goal.rewrite_parts-returns-clause-made
rewrite_parts-returns-clause-made g t c =
    let m = g.R.Rule.making c.args.rule.now in
    let same : map part_of c.loop-part.made ≡ map (rewritten.rewritten m) (map part_of c.args.parts.now) = grind (arith, common_steps) in
    ap parts same ∙ each_part m (map part_of c.args.parts.now)
