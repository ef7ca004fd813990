-- What was made so far is what is made of the items so far, and the rule makes what it made.
use Rattle.std.proofs.Common.{◌≡◌, map, take}
use Rattle.tree.specs.View.{item_of}
use Rattle.rewrite.specs.MadeBlocks as making
use Rattle.rewrite.proofs.items.+inputs.Given as goal

abbrev pub invariant-rewrite_inputs-loop-item : goal.invariant-rewrite_inputs-loop-item
invariant-rewrite_inputs-loop-item g l =
    let makes = g.R.Rule.making in
    record {
      made : map item_of l.made ≡ map (making.made_input (makes l.fn.rule)) (map item_of (take l.item-index l.item-items));
      same : makes l.rule ≡ makes l.fn.rule;
    }
