use Rattle.translation.proofs.NestBlocks.Placed.{put_for_found}
use Rattle.translation.proofs.nest_blocks.answers.put_found.Goals as goal

pub returns-in-Nest-Some : goal.returns-in-Nest-Some
returns-in-Nest-Some c =
    put_for_found c.put.result c.args.found.now c.args.block c.in-Nest-Some.nest c.loop_number.result
    c.saturating_sub-place.result c.in-Nest-Some.block c.args.blocks.now.items c.put.new.blocks.items
    c.in-Nest-Some.is-0 c.in-Nest-Some.is-1 c.loop_number.ensures c.saturating_sub-place.ensures c.put.ensures
