use Rattle.std.proofs.Common.{◌≡◌, map, drop}
use Rattle.tree.specs.Plain.{items}
use Rattle.tree.specs.View.{item_of}
use Rattle.f77_grammar.specs.program.Kinds as kinds
use Rattle.f77_checks.specs.kinds.KnownUses.{known_uses}
use Rattle.f77_checks.proofs.kinds.kind_check.KindCheck.+items.Given as goal

abbrev pub invariant-suits_items-loop-item : goal.invariant-suits_items-loop-item
invariant-suits_items-loop-item l =
    kinds.suits_items (known_uses l.self) l.direction (items (map item_of l.item-items))
    ≡ kinds.suits_items (known_uses l.self) l.direction (items (map item_of (drop l.item-index l.item-items)))
