use Rattle.std.proofs.Common.{arith, sym, ◌∙◌, ◌+◌}
use mathlib.Core.Path.{ap₂}
use Rattle.tree.specs.View.{subscript_of}
use Rattle.array_form.proofs.holds.FormLaws.{occurrences_more}
use Rattle.array_form.proofs.holds.left_sides.occurrences.Goals as goal

pub loop-sub-preserved : goal.loop-sub-preserved
loop-sub-preserved c = record {
  count = ap₂ (λ a b. a + b) c.loop-sub.invariant.count c.occurrence-count.ensures.value
      ∙ sym (occurrences_more c.args.name subscript_of c.as_slice-sub-items.result.now c.loop-sub.sub-index c.sub-item.result (omega arith) c.sub-item.is);
  within = omega arith;
}
