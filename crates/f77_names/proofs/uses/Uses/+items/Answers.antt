use Rattle.std.proofs.Common.{map, take, ◌+◌, arith}
use Rattle.tree.specs.Plain.{items}
use Rattle.tree.specs.View.{item_of}
use Rattle.f77_grammar.specs.program.Uses as plain
use Rattle.f77_names.specs.UsesView.{listed}
use Rattle.f77_names.proofs.UseLaws.{added}
use Rattle.f77_names.proofs.ItemUseLaws.{items_more}
use Rattle.f77_names.proofs.uses.Uses.+items.Goals as goal

pub add_items-loop-item-preserved : goal.add_items-loop-item-preserved
add_items-loop-item-preserved t c =
    added (listed c.args.self.now) (listed c.loop-item.self) (listed c.add_item.new.self)
    (plain.uses_in_items c.args.direction (items (map item_of (take c.loop-item.item-index c.as_slice-item-items.result.now))))
    (plain.uses_in_item c.args.direction (item_of c.item-item.result))
    (plain.uses_in_items c.args.direction (items (map item_of (take (c.loop-item.item-index + 1) c.as_slice-item-items.result.now))))
    c.loop-item.invariant c.in_ok-add_item.ensures
    (items_more c.args.direction c.as_slice-item-items.result.now c.loop-item.item-index c.item-item.result (omega arith) c.item-item.is)
