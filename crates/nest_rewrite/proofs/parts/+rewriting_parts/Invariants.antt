-- What was made so far is what is made of the parts so far, and the rule makes what it made.
use Rattle.std.proofs.Common.{◌≡◌, map, take}
use Rattle.nest.specs.View.{part_of, branch_of}
use Rattle.nest_rewrite.specs.Rewritten as rewritten
use Rattle.nest_rewrite.proofs.parts.+rewriting_parts.Given as goal

abbrev pub invariant-rewrite_arms-loop-arm : goal.invariant-rewrite_arms-loop-arm
invariant-rewrite_arms-loop-arm g l =
    let makes = g.R.Rule.making in
    record {
      made : map branch_of l.made ≡ map (rewritten.rewritten_branch (makes l.fn.rule)) (map branch_of (take l.arm-index l.arm-items));
      same : makes l.rule ≡ makes l.fn.rule;
    }

abbrev pub invariant-rewrite_parts-loop-part : goal.invariant-rewrite_parts-loop-part
invariant-rewrite_parts-loop-part g l =
    let makes = g.R.Rule.making in
    record {
      made : map part_of l.made ≡ map (rewritten.rewritten (makes l.fn.rule)) (map part_of (take l.part-index l.part-items));
      same : makes l.rule ≡ makes l.fn.rule;
    }
