use Rattle.std.proofs.Common.{arith}
use Rattle.tree.specs.View.{item_of}
use Rattle.rewrite.specs.Names.{uses_in_input}
use Rattle.rewrite.proofs.UseLaws.{more}
use Rattle.rewrite.proofs.uses.Uses.+inputs.Goals as goal

pub add_inputs-loop-item-preserved : goal.add_inputs-loop-item-preserved
add_inputs-loop-item-preserved t c =
    more uses_in_input item_of c.as_slice-item-items.result.now c.loop-item.item-index c.item-item.result c.args.self.now.list c.loop-item.self.list c.add_input.new.self.list
    (omega arith) c.item-item.is c.loop-item.invariant c.in_ok-add_input.ensures
