use Rattle.nest.specs.View.{nest_of}
use Rattle.translation.proofs.NestBlocks.Answering.{answered, may_be_emitted}
use Rattle.translation.proofs.nest_blocks.loop_answers.nest_answer.Goals as goal
use Rattle.tree.specs.declared.width.Width.TheVariants.{Wide}

pub translated-requires : goal.translated-requires
translated-requires c =
    let passed = c.in_ok-passes.ensures in
    may_be_emitted Wide c.args.counts (nest_of c.args.found.now) (nest_of c.in_ok-passes.field-0.nest.value)
    c.in_ok-passes.field-0.tests.graph c.requires passed.passed passed.tests.graph

pub returns : goal.returns
returns c =
    answered c.translated.result c.args.counts (nest_of c.args.found.now) c.in_ok-passes.field-0 c.in_ok-passes.ensures
    c.translated.ensures
