use Rattle.std.proofs.Common.{sym, ap, ◌∙◌, refl}
use Rattle.tree.specs.View.{expression_of, reference_of}
use Rattle.array_values.specs.Positions.{wider}
use Rattle.array_values.proofs.Steps.{residual}
use Rattle.array_values.specs.storage.Stored.{slots_in, store_in}
use Rattle.array_expressions.proofs.assignments.Planned.{writes_fail, plan_is, plan_sound}
use Rattle.array_expressions.proofs.assignments.arrays.planned.Goals as goal

pub returns-in_err-writes-clause-plans : goal.returns-in_err-writes-clause-plans
returns-in_err-writes-clause-plans c =
    let t = c.in_ok-target.ensures in
    rw (residual c.from_residual-in_err-writes.ensures.1)
    (writes_fail c.args.width (slots_in c.args.scope.now.storage.now) (expression_of c.args.mask.now) (reference_of c.args.left.now) (expression_of c.args.right.now) (store_in c.args.scope.now.storage.now)
    c.in_ok-mask.mask c.in_ok-mask.ensures c.in_ok-target.target t c.extents.result.now c.as_slice-extents.result.now c.extents.ensures c.as_slice-extents.ensures c.in_ok-check_conform.ensures
    c.in_ok-right.right c.in_ok-right.ensures c.wider.result.now c.extents-3.result.now (c.wider.ensures ∙ ap (λ xs. wider xs c.as_slice-extents.result.now) (c.extents-2.ensures ∙ sym c.extents.ensures)) c.extents-3.ensures
    _ c.in_ok-check_conform-2.ensures c.in_err-writes.field-0.0
    (c.in_err-writes.ensures t.target.bounds t.axes (reference_of c.args.left.now).name t.target.selected))

pub returns-clause-plans : goal.returns-clause-plans
returns-clause-plans c =
    let t = c.in_ok-target.ensures in
    plan_is c.args.width (slots_in c.args.scope.now.storage.now) (expression_of c.args.mask.now) (reference_of c.args.left.now) (expression_of c.args.right.now) (store_in c.args.scope.now.storage.now)
    c.in_ok-mask.mask c.in_ok-mask.ensures c.in_ok-target.target t c.extents.result.now c.as_slice-extents.result.now c.extents.ensures c.as_slice-extents.ensures c.in_ok-check_conform.ensures
    c.in_ok-right.right c.in_ok-right.ensures c.wider.result.now c.extents-3.result.now (c.wider.ensures ∙ ap (λ xs. wider xs c.as_slice-extents.result.now) (c.extents-2.ensures ∙ sym c.extents.ensures)) c.extents-3.ensures
    _ c.in_ok-check_conform-2.ensures _ refl
    (c.in_ok-writes.ensures t.target.bounds t.axes (reference_of c.args.left.now).name t.target.selected)

pub returns-clause-sound : goal.returns-clause-sound
returns-clause-sound c =
    let t = c.in_ok-target.ensures in
    plan_sound c.args.width (slots_in c.args.scope.now.storage.now) (expression_of c.args.mask.now) (reference_of c.args.left.now) (expression_of c.args.right.now) (store_in c.args.scope.now.storage.now)
    c.in_ok-mask.mask c.in_ok-mask.ensures c.in_ok-target.target t c.extents.result.now c.as_slice-extents.result.now c.extents.ensures c.as_slice-extents.ensures c.in_ok-check_conform.ensures
    c.in_ok-right.right c.in_ok-right.ensures c.wider.result.now c.extents-3.result.now (c.wider.ensures ∙ ap (λ xs. wider xs c.as_slice-extents.result.now) (c.extents-2.ensures ∙ sym c.extents.ensures)) c.extents-3.ensures
    _ c.in_ok-check_conform-2.ensures _ refl
    (c.in_ok-writes.ensures t.target.bounds t.axes (reference_of c.args.left.now).name t.target.selected)
