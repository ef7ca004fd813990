use Rattle.std.proofs.Common.{◌≡◌, ◌++◌, map, take}
use Rattle.std.specs.List.{flat_map}
use Rattle.tree.specs.View.{item_of}
use Rattle.rewrite.specs.Names.{uses_in_output}
use Rattle.rewrite.proofs.uses.Uses.+outputs.Given as goal

abbrev pub invariant-add_outputs-loop-item : goal.invariant-add_outputs-loop-item
invariant-add_outputs-loop-item l = l.self.list ≡ l.initial.self.list ++ flat_map uses_in_output (map item_of (take l.item-index l.item-items))
