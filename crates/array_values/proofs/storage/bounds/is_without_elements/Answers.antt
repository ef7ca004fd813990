use Rattle.std.proofs.Common.{refl, sym, ◌∙◌, pos, arith}
use Rattle.array_values.proofs.storage.EmptyBounds.{none_there, none_behind, some_there}
use Rattle.array_values.proofs.storage.bounds.is_without_elements.Goals as goal

pub returns-then-size-eq0 : goal.returns-then-size-eq0
returns-then-size-eq0 c =
    let e = sym c.size.ensures ∙ c.if-size-eq0.true in
    (λ _. none_there c.args.ranges.now c.loop-range.range-index (record { lower = pos 0; upper = pos 0 }) (omega arith) e, λ _. refl)

pub loop-range-preserved : goal.loop-range-preserved
loop-range-preserved c = λ e.
    none_behind c.args.ranges.now c.loop-range.range-index (record { lower = pos 0; upper = pos 0 }) (omega arith) (λ h. c.if-size-eq0.false (c.size.ensures ∙ h))
    (c.loop-range.invariant e)

pub returns : goal.returns
returns c = (λ x. cc, λ e. absurd (some_there c.args.ranges.now c.loop-range.range-index (omega arith) c.loop-range.invariant e))
