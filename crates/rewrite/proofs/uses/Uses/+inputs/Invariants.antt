use Rattle.std.proofs.Common.{◌≡◌, ◌++◌, map, take}
use Rattle.std.specs.List.{flat_map}
use Rattle.tree.specs.View.{item_of}
use Rattle.rewrite.specs.Names.{uses_in_input}
use Rattle.rewrite.proofs.uses.Uses.+inputs.Given as goal

abbrev pub invariant-add_inputs-loop-item : goal.invariant-add_inputs-loop-item
invariant-add_inputs-loop-item l = l.self.list ≡ l.initial.self.list ++ flat_map uses_in_input (map item_of (take l.item-index l.item-items))
