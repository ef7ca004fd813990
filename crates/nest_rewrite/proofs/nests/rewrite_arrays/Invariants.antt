use Rattle.std.proofs.Common.{◌≡◌, map, take}
use Rattle.nest.specs.View.{made_of}
use Rattle.nest_rewrite.specs.Rewritten as rewritten
use Rattle.nest_rewrite.proofs.nests.rewrite_arrays.Given as goal

abbrev pub invariant-loop-array : goal.invariant-loop-array
invariant-loop-array g l =
    let makes = g.R.Rule.making in
    record {
      made : map made_of l.made ≡ map (rewritten.rewritten_array (makes l.fn.rule)) (map made_of (take l.array-index l.array-items));
      same : makes l.rule ≡ makes l.fn.rule;
    }
