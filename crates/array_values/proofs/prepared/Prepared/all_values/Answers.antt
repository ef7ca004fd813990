use Rattle.std.proofs.Common.{◌≡◌, ap, sym, subst, ◌∙◌, ◌-◌, arith, map}
use Rattle.meaning.specs.ArrayValues.{each, positions, size, counted}
use Rattle.array_values.specs.Arrays.{elements_in}
use Rattle.array_values.specs.Positions.{position_at}
use Rattle.array_values.proofs.Positions.{positions_are}
use Rattle.array_values.proofs.Steps.{residual, places_begun, places_fault, places_more, places_done, left_of}
use Rattle.array_values.proofs.prepared.Prepared.all_values.Goals as goal

pub loop-place-init : goal.loop-place-init
loop-place-init c =
    let f = (elements_in c.args.self.now).at in
    let ns = c.args.extents.now in
    subst (λ vs. each f (positions ns) ≡ left_of f vs (map (position_at ns) (counted 0 (c.in-Some.count - 0))))
    (sym (c.from_vec-values.ensures ∙ c.in_ok-with_capacity.ensures.items))
    (ap (each f) (positions_are ns) ∙ places_begun f (position_at ns) c.in-Some.count (size ns) c.in-Some.ensures)

pub returns-in_err-at : goal.returns-in_err-at
returns-in_err-at c =
    let f = (elements_in c.args.self.now).at in
    rw (residual c.from_residual-in_err-at.ensures.1)
    (places_fault f (position_at c.args.extents.now) c.in-Some.count _ c.loop-place.values c.loop-place.place c.loop-place.invariant
    c.in_err-at.field-0.0 (omega arith) (sym (c.in_err-at.ensures ∙ ap f (c.deref.ensures.value ∙ c.in_ok-set_position.ensures))))

pub loop-place-preserved : goal.loop-place-preserved
loop-place-preserved c =
    let f = (elements_in c.args.self.now).at in
    let e = places_more f (position_at c.args.extents.now) c.in-Some.count _ c.loop-place.values c.loop-place.place c.loop-place.invariant
    c.in_ok-at.field-0 (omega arith) (sym (c.in_ok-at.ensures ∙ ap f (c.deref.ensures.value ∙ c.in_ok-set_position.ensures))) in
    rw c.in_ok-push.ensures.ok e

pub returns : goal.returns
returns c =
    let f = (elements_in c.args.self.now).at in
    places_done f (position_at c.args.extents.now) c.in-Some.count _ c.loop-place.values c.loop-place.place c.loop-place.invariant (omega arith)
