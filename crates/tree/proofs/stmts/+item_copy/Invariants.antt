-- The copies so far are those of the items so far.
use Rattle.std.proofs.Common.{◌≡◌, map, take}
use Rattle.tree.specs.View.{item_of}
use Rattle.tree.proofs.stmts.+item_copy.Given as goal

abbrev pub invariant-copy_items-loop-item : goal.invariant-copy_items-loop-item
invariant-copy_items-loop-item l = map item_of l.copies ≡ map item_of (take l.item-index l.item-items)
