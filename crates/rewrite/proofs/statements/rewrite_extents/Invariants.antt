-- What was made so far is what is made of the extents so far, and the rule makes what it made.
use Rattle.std.proofs.Common.{◌≡◌, map, take}
use Rattle.tree.specs.View.{expression_of}
use Rattle.rewrite.specs.Making as making
use Rattle.rewrite.proofs.statements.rewrite_extents.Given as goal

abbrev pub invariant-loop-extent : goal.invariant-loop-extent
invariant-loop-extent g l =
    let makes = g.R.Rule.making in
    record {
      made : map expression_of l.made ≡ map (making.made (makes l.fn.rule)) (map expression_of (take l.extent-index l.extent-items));
      same : makes l.rule ≡ makes l.fn.rule;
    }
