use Rattle.std.proofs.Common.{◌≡◌, ◌++◌, map, take}
use Rattle.std.specs.List.{flat_map}
use Rattle.tree.specs.View.{item_of}
use Rattle.reductions.specs.Reading.{read_in_item}
use Rattle.reductions.proofs.reading.+items.Given as goal

abbrev pub invariant-add_list-loop-item : goal.invariant-add_list-loop-item
invariant-add_list-loop-item l = l.names ≡ l.initial.names ++ flat_map read_in_item (map item_of (take l.item-index l.item-items))
