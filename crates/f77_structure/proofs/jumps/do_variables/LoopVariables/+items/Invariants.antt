use Rattle.std.proofs.Common.{◌≡◌, map, drop}
use Rattle.tree.specs.Plain.{items}
use Rattle.tree.specs.View.{item_of}
use Rattle.f77_structure.specs.jumps.LoopVariables.{scalar_in, round_at}
use Rattle.f77_structure.specs.jumps.Misuses.{misuses_items}
use Rattle.f77_structure.proofs.jumps.do_variables.LoopVariables.+items.Given as goal

abbrev pub invariant-misuses_items-loop-item : goal.invariant-misuses_items-loop-item
invariant-misuses_items-loop-item l = record {
  same : l.lists.items ≡ l.initial.lists.items;
  rest : misuses_items (scalar_in l.self) (round_at l.self l.at) l.direction (items (map item_of l.item-items)) l.initial.lists.items
      ≡ misuses_items (scalar_in l.self) (round_at l.self l.at) l.direction (items (map item_of (drop l.item-index l.item-items))) l.initial.lists.items;
}
