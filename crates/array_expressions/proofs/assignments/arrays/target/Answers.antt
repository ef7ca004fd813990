use Rattle.std.proofs.Common.{subst, map}
use Rattle.array_values.specs.Selections.{selector_in}
use Rattle.array_values.proofs.Steps.{residual}
use Rattle.array_values.specs.storage.Stored.{slots_in, store_in}
use Rattle.array_values.specs.storage.Targets.{Targets, axes_within, part_of}
use Rattle.array_expressions.proofs.assignments.Planned.{all_selected, part_fails, part_selected}
use Rattle.array_expressions.proofs.assignments.arrays.target.Goals as goal

pub returns-then-is_empty : goal.returns-then-is_empty
returns-then-is_empty c = all_selected c.args.width (slots_in c.args.scope.now.storage.now) (store_in c.args.scope.now.storage.now) c.args.left.now c.target.result (c.is_empty.ensures.0 c.if-is_empty.true) c.target.ensures

pub returns-in_err-selectors : goal.returns-in_err-selectors
returns-in_err-selectors c =
    rw (residual c.from_residual.ensures.1)
    (part_fails c.args.width (slots_in c.args.scope.now.storage.now) (store_in c.args.scope.now.storage.now) c.args.left.now c.in_err-selectors.field-0.0 (λ e. (let b = c.is_empty.ensures.1 e in cc)) c.in_err-selectors.ensures)

pub returns : goal.returns
returns c =
    let vs = slots_in c.args.scope.now.storage.now in
    let s = store_in c.args.scope.now.storage.now in
    part_selected c.args.width vs s c.args.left.now (map selector_in c.in_ok-selectors.selectors) c.target_part.result (λ e. (let b = c.is_empty.ensures.1 e in cc)) c.in_ok-selectors.ensures
    (subst (λ zs. Targets vs c.args.left.now.name (axes_within (part_of (map selector_in zs)) c.args.left.now.name s) c.target_part.result) c.as_slice.ensures c.target_part.ensures)
