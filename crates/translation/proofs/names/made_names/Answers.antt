use Rattle.std.proofs.Common.{[], ◌∙◌, arith}
use Rattle.translation.proofs.MadeNames.{made_in_blocks, one_block_more}
use Rattle.translation.proofs.names.made_names.Goals as goal

pub loop-block-preserved : goal.loop-block-preserved
loop-block-preserved c =
    one_block_more [] c.loop-block.names.keys c.note_block.new.names.keys
    c.args.blocks.now c.loop-block.block-index c.block-item.result
    (omega arith) c.block-item.is c.loop-block.invariant c.in_ok-note_block.ensures

pub returns : goal.returns
returns c =
    made_in_blocks c.args.blocks.now c.loop-block.block-index c.loop-block.names.keys c.from_vec.result
    (omega arith) c.loop-block.invariant
    (c.from_vec.ensures ∙ c.in_ok-from_slice.ensures.items ∙ c.as_slice.ensures.keys)
