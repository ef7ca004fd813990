use Rattle.std.proofs.Common.{arith}
use Rattle.tree.specs.View.{item_of}
use Rattle.meaning.specs.Reads.{names_in_item}
use Rattle.rewrite.proofs.UseLaws.{more}
use Rattle.rewrite.proofs.statement_names.+items.Goals as goal

pub add_items-loop-item-preserved : goal.add_items-loop-item-preserved
add_items-loop-item-preserved t c =
    more names_in_item item_of c.as_slice-item-items.result.now c.loop-item.item-index c.item-item.result
    c.args.uses.now.names c.loop-item.uses.names c.add_item.new.uses.names
    (omega arith) c.item-item.is c.loop-item.invariant c.in_ok-add_item.ensures
