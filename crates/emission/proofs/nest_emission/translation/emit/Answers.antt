use Rattle.std.proofs.Common.{◌∙◌}
use Rattle.nest.specs.View.{nest_of}
use Rattle.emission.proofs.nest_emission.TranslationLaws.{all_inside, all_once}
use Rattle.emission.proofs.nest_emission.translation.emit.Goals as goal

pub part_block-requires-clause-once : goal.part_block-requires-clause-once
part_block-requires-clause-once c = all_once c.as_slice-4.result.now c.args.graph.now.stmts (c.as_slice-4.ensures.value ∙ c.in_ok-part.ensures)

pub part_block-requires-clause-inside : goal.part_block-requires-clause-inside
part_block-requires-clause-inside c =
    all_inside (nest_of c.args.nest.now) c.as_slice-4.result.now c.args.graph.now.stmts (c.as_slice-4.ensures.value ∙ c.in_ok-part.ensures) c.requires.count
