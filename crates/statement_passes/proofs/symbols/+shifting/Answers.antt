use Rattle.std.proofs.Common.{◌≡◌, ap, ◌∙◌, map, arith}
use Rattle.std.proofs.lemmas.Grind.{common_steps}
use Rattle.nest.specs.Plain.{parts}
use Rattle.nest.specs.View.{branch_of, branches, part_of}
use Rattle.statement_passes.specs.Shifted.{shifted_branch, shifted_part}
use Rattle.statement_passes.proofs.Shifting.{each_branch, each_part}
use Rattle.statement_passes.proofs.symbols.+shifting.Goals as goal

pub shifted_parts-returns : goal.shifted_parts-returns
shifted_parts-returns t c =
    let same : map part_of c.loop-part.made ≡ map (shifted_part c.args.at) (map part_of c.args.parts.now) = grind (arith, common_steps) in
    ap parts same ∙ each_part c.args.at (map part_of c.args.parts.now)

pub shifted_arms-returns : goal.shifted_arms-returns
shifted_arms-returns t c =
    let same : map branch_of c.loop-arm.made ≡ map (shifted_branch c.args.at) (map branch_of c.args.arms.now) = grind (arith, common_steps) in
    ap branches same ∙ each_branch c.args.at (map branch_of c.args.arms.now)
