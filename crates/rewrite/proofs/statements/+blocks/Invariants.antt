-- What was made so far is what is made of the parts so far, and the rule makes what it made.
use Rattle.std.proofs.Common.{◌≡◌, map, take}
use Rattle.tree.specs.View.{statement_of, tested_of}
use Rattle.rewrite.specs.MadeBlocks as making
use Rattle.rewrite.proofs.statements.+blocks.Given as goal

abbrev pub invariant-rewrite_arms-loop-arm : goal.invariant-rewrite_arms-loop-arm
invariant-rewrite_arms-loop-arm g l =
    let makes = g.R.Rule.making in
    record {
      made : map tested_of l.made ≡ map (making.made_arm (makes l.fn.rule)) (map tested_of (take l.arm-index l.arm-items));
      same : makes l.rule ≡ makes l.fn.rule;
    }

abbrev pub invariant-rewrite_statements-loop-stmt : goal.invariant-rewrite_statements-loop-stmt
invariant-rewrite_statements-loop-stmt g l =
    let makes = g.R.Rule.making in
    record {
      made : map statement_of l.made ≡ map (making.made_statement (makes l.fn.rule)) (map statement_of (take l.stmt-index l.stmt-items));
      same : makes l.rule ≡ makes l.fn.rule;
    }
