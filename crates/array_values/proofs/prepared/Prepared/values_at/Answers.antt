use Rattle.std.proofs.Common.{◌≡◌, sym, ap, subst, ◌∙◌, arith, ℕ}
use Rattle.meaning.specs.ArrayValues.{each}
use Rattle.array_values.specs.Positions.{position_at}
use Rattle.array_values.specs.Arrays.{elements_in}
use Rattle.array_values.proofs.Steps.{residual, left_of, left_begun, list_fault, list_more, list_done}
use Rattle.array_values.proofs.prepared.Prepared.values_at.Goals as goal

pub loop-place-init : goal.loop-place-init
loop-place-init c =
    let f = λ (k : ℕ). (elements_in c.args.self.now).at (position_at c.args.extents.now k) in
    subst (λ vs. each f c.args.places.now ≡ left_of f vs c.args.places.now) (sym (c.from_vec-values.ensures ∙ c.in_ok-with_capacity.ensures.items))
    (left_begun f c.args.places.now)

pub returns-in_err-at : goal.returns-in_err-at
returns-in_err-at c =
    let f = λ (k : ℕ). (elements_in c.args.self.now).at (position_at c.args.extents.now k) in
    rw (residual c.from_residual-in_err-at.ensures.1)
    (list_fault f _ c.loop-place.values c.args.places.now c.loop-place.place-index c.loop-place.invariant
    0 c.in_err-at.field-0.0 (omega arith) (sym (c.in_err-at.ensures ∙ ap (elements_in c.args.self.now).at (c.deref.ensures.value ∙ c.in_ok-set_position.ensures))))

pub loop-place-preserved : goal.loop-place-preserved
loop-place-preserved c =
    let f = λ (k : ℕ). (elements_in c.args.self.now).at (position_at c.args.extents.now k) in
    let e = list_more f _ c.loop-place.values c.args.places.now c.loop-place.place-index c.loop-place.invariant
    0 c.in_ok-at.field-0 (omega arith) (sym (c.in_ok-at.ensures ∙ ap (elements_in c.args.self.now).at (c.deref.ensures.value ∙ c.in_ok-set_position.ensures))) in
    rw c.in_ok-push.ensures.ok e

pub returns : goal.returns
returns c =
    let f = λ (k : ℕ). (elements_in c.args.self.now).at (position_at c.args.extents.now k) in
    list_done f _ c.loop-place.values c.args.places.now c.loop-place.place-index c.loop-place.invariant (omega arith)
