use Rattle.std.proofs.Common.{arith, sym, ◌∙◌}
use Rattle.array_values.proofs.ExtentLaws.{extents_found, nonempty}
use Rattle.array_values.proofs.prepared.+extents.Goals as goal

pub common_extents-returns-then-not-is_empty : goal.common_extents-returns-then-not-is_empty
common_extents-returns-then-not-is_empty t c =
    extents_found _ c.args.parts.now c.loop-part.part-index c.loop-part.invariant c.part-item.result c.extents-own.result.now (omega arith) c.part-item.is c.extents-own.ensures (nonempty c.extents-own.result.now (sym c.is_empty.ensures ∙ c.if-not-is_empty.true))
