use Rattle.std.proofs.Common.{◌≡◌, sym, ap, subst, ◌∙◌, arith, [], ◌∷◌, pos, map, Ok, Err, get_or, drop, ◌+◌}
use Rattle.array_values.specs.Answers.{Answers}
use Rattle.array_values.specs.declared.sections.Selector.TheVariants.{Index}
use Rattle.std.proofs.lemmas.List.{map-append}
use Rattle.tree.specs.View.{bounds_of}
use Rattle.meaning.specs.Sections.{axes_on, axis_on}
use Rattle.array_values.specs.Selections.{selector_in, axis_in}
use Rattle.array_values.proofs.Steps.{residual}
use Rattle.array_values.proofs.AxisLaws.{left_axes, axes_begun, axes_more, axes_few, axes_many, axes_end, axes_failed}
use Rattle.array_values.proofs.sections.axes.Goals as goal

pub loop-place-init : goal.loop-place-init
loop-place-init c =
    subst (λ as'. axes_on (map bounds_of c.args.dims.now) (map selector_in c.args.selectors.now) ≡ left_axes (map axis_in as') c.args.dims.now c.args.selectors.now)
    (sym c.new-axes.ensures) (axes_begun c.args.dims.now c.args.selectors.now)

pub returns-then-place-selectors : goal.returns-then-place-selectors
returns-then-place-selectors c = axes_few _ (map axis_in c.loop-place.axes) c.args.dims.now c.args.selectors.now c.loop-place.place c.loop-place.invariant (record { lower = pos 0; upper = pos 0 }) (omega arith) (omega arith)

pub returns-in_err-axis : goal.returns-in_err-axis
returns-in_err-axis c =
    rw (residual c.from_residual.ensures.1)
    (axes_failed _ (map axis_in c.loop-place.axes) c.args.dims.now c.args.selectors.now c.loop-place.place c.loop-place.invariant
    (record { lower = pos 0; upper = pos 0 }) c.index-selectors-place.result c.in_err-axis.field-0.0 (omega arith) (omega arith)
    (subst (λ p. Answers axis_in (axis_on (bounds_of (get_or c.args.dims.now c.loop-place.place (record { lower = pos 0; upper = pos 0 }))) (selector_in p)) (Err c.in_err-axis.field-0.0))
    c.index-selectors-place.is c.in_err-axis.ensures))

pub loop-place-preserved : goal.loop-place-preserved
loop-place-preserved c =
    let e = axes_more _ (map axis_in c.loop-place.axes) c.args.dims.now c.args.selectors.now c.loop-place.place c.loop-place.invariant
    (record { lower = pos 0; upper = pos 0 }) c.index-selectors-place.result (axis_in c.in_ok-axis.axis) (omega arith) (omega arith)
    (subst (λ p. axis_on (bounds_of (get_or c.args.dims.now c.loop-place.place (record { lower = pos 0; upper = pos 0 }))) (selector_in p) ≡ Ok (axis_in c.in_ok-axis.axis))
    c.index-selectors-place.is c.in_ok-axis.ensures) in
    subst (λ as'. axes_on (map bounds_of c.args.dims.now) (map selector_in c.args.selectors.now) ≡ left_axes as' (drop (c.loop-place.place + 1) c.args.dims.now) (drop (c.loop-place.place + 1) c.args.selectors.now))
    (sym (ap (map axis_in) c.in_ok-push.ensures.ok ∙ map-append axis_in c.loop-place.axes (c.in_ok-axis.axis ∷ []))) e

pub returns-then-dims-selectors : goal.returns-then-dims-selectors
returns-then-dims-selectors c =
    axes_many _ (map axis_in c.loop-place.axes) c.args.dims.now c.args.selectors.now c.loop-place.place c.loop-place.invariant (Index (pos 0)) (omega arith) (omega arith)

pub returns : goal.returns
returns c = axes_end _ (map axis_in c.loop-place.axes) c.args.dims.now c.args.selectors.now c.loop-place.place c.loop-place.invariant (omega arith) (omega arith)
