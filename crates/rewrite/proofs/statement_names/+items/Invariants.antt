use Rattle.std.proofs.Common.{◌≡◌, ◌++◌, map, take}
use Rattle.std.specs.List.{flat_map}
use Rattle.tree.specs.View.{item_of}
use Rattle.meaning.specs.Reads.{names_in_item}
use Rattle.rewrite.proofs.statement_names.+items.Given as goal

abbrev pub invariant-add_items-loop-item : goal.invariant-add_items-loop-item
invariant-add_items-loop-item l =
    l.uses.names ≡ l.initial.uses.names ++ flat_map names_in_item (map item_of (take l.item-index l.item-items))
