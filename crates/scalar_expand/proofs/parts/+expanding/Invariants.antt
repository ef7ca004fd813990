-- What was made so far is what becomes of the parts so far, and the rule makes what it made.
use Rattle.std.proofs.Common.{◌≡◌, map, take}
use Rattle.nest.specs.View.{part_of}
use Rattle.scalar_expand.specs.Expanded.{expanded_part}
use Rattle.scalar_expand.proofs.parts.+expanding.Given as goal

abbrev pub invariant-expand_parts-loop-part : goal.invariant-expand_parts-loop-part
invariant-expand_parts-loop-part g l =
    let makes = g.R.Rule.making in
    record {
      made : map part_of l.made ≡ map (expanded_part l.line (makes l.fn.rule) l.privates) (map part_of (take l.part-index l.part-items));
      same : makes l.rule ≡ makes l.fn.rule;
    }
