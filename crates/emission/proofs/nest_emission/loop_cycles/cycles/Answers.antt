use Rattle.std.proofs.Common.{◌∙◌}
use Rattle.nest.specs.View.{nest_of}
use Rattle.emission.proofs.nest_emission.CycleLaws.{all_rise}
use Rattle.emission.proofs.nest_emission.TranslationLaws.{all_inside}
use Rattle.emission.proofs.nest_emission.loop_cycles.cycles.Goals as goal

pub add_of_part-requires-clause-rises : goal.add_of_part-requires-clause-rises
add_of_part-requires-clause-rises c = all_rise c.as_slice-4.result.now c.args.graph.now.stmts (c.as_slice-4.ensures.value ∙ c.in_ok-part.ensures)

pub add_of_part-requires-clause-inside : goal.add_of_part-requires-clause-inside
add_of_part-requires-clause-inside c =
    all_inside (nest_of c.args.nest.now) c.as_slice-4.result.now c.args.graph.now.stmts (c.as_slice-4.ensures.value ∙ c.in_ok-part.ensures) c.requires.count
