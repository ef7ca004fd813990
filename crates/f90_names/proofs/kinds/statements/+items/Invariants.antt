use Rattle.std.proofs.Common.{◌≡◌, map, drop}
use Rattle.tree.specs.Plain.{items}
use Rattle.tree.specs.View.{item_of}
use Rattle.f90_names.specs.kinds.declarations.Names.{found}
use Rattle.f90_names.specs.kinds.Found as plain
use Rattle.f90_names.specs.kinds.Directions.{direction_of}
use Rattle.f90_names.proofs.kinds.statements.+items.Given as goal

abbrev pub invariant-suits_items-loop-item : goal.invariant-suits_items-loop-item
invariant-suits_items-loop-item l =
    plain.suits_items (found l.names) (direction_of l.way) (items (map item_of l.item-items))
    ≡ plain.suits_items (found l.names) (direction_of l.way) (items (map item_of (drop l.item-index l.item-items)))
