use Rattle.std.proofs.Common.{arith}
use Rattle.tree.specs.View.{item_of}
use Rattle.rewrite.proofs.UseLaws.{more}
use Rattle.reductions.specs.Reading.{read_in_item}
use Rattle.reductions.proofs.reading.+items.Goals as goal

pub add_list-loop-item-preserved : goal.add_list-loop-item-preserved
add_list-loop-item-preserved t c =
    more read_in_item item_of c.as_slice-item-items.result.now c.loop-item.item-index c.item-item.result c.args.names.now c.loop-item.names c.add_list_item.new.names
    (omega arith) c.item-item.is c.loop-item.invariant c.in_ok-add_list_item.ensures
