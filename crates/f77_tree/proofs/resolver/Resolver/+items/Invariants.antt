use Rattle.std.proofs.Common.{◌≡◌, map, take}
use Rattle.tree.specs.View.{item_of}
use Rattle.f77_grammar.specs.program.Tree as tree
use Rattle.f77_tree.specs.Parts.{known_uses, known_store}
use Rattle.f77_tree.proofs.resolver.Resolver.+items.Given as goal

abbrev pub invariant-resolve_items-loop-item : goal.invariant-resolve_items-loop-item
invariant-resolve_items-loop-item l =
    map item_of l.resolved ≡ map (λ i. tree.resolved_item (known_uses l.self) (known_store l.self) l.direction (item_of i)) (take l.item-index l.item-items)
