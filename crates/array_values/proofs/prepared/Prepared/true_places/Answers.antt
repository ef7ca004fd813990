use Rattle.std.proofs.Common.{◌≡◌, ◌<◌, sym, ap, subst, ◌∙◌, ◌-◌, arith, [], ◌∷◌, Result, Ok, Bool}
use Rattle.std.proofs.lemmas.List.Elements.{All-append}
use Rattle.tree.specs.declared.ops.Fault.{Fault}
use Rattle.meaning.specs.ArrayValues.{size, counted}
use Rattle.array_values.specs.Arrays.{elements_in}
use Rattle.array_values.specs.Masks.{true_places}
use Rattle.array_values.proofs.Steps.{residual, all_of_one}
use Rattle.array_values.proofs.Masks.{left_true, true_begun, mask_fault, truth_fault, mask_true, mask_false, mask_done}
use Rattle.array_values.proofs.prepared.Prepared.true_places.Goals as goal
use Rattle.array_values.proofs.prepared.Prepared.true_places.Goals.{then-branch+in_ok-push, else-branch}

pub loop-place-init : goal.loop-place-init
loop-place-init c = record {
  so_far = subst (λ ks. true_places (elements_in c.args.self.now) c.args.extents.now ≡ left_true (elements_in c.args.self.now) c.args.extents.now ks (counted 0 (c.in-Some.count - 0)))
      (sym c.new-places.ensures) (true_begun (elements_in c.args.self.now) c.args.extents.now c.in-Some.count c.in-Some.ensures);
  within = rw c.new-places.ensures (λ k d h. absurd (omega arith));
}

pub returns-in_err-at-clause-places : goal.returns-in_err-at-clause-places
returns-in_err-at-clause-places c =
    let g = elements_in c.args.self.now in
    rw (residual c.from_residual-in_err-at.ensures.1)
    (mask_fault g c.args.extents.now c.in-Some.count _ c.loop-place.places c.loop-place.place c.loop-place.invariant.so_far
    c.in_err-at.field-0.0 (omega arith) (sym (c.in_err-at.ensures ∙ ap g.at (c.deref.ensures.value ∙ c.in_ok-set_position.ensures))))

pub returns-in_err-as_truth-clause-places : goal.returns-in_err-as_truth-clause-places
returns-in_err-as_truth-clause-places c =
    let g = elements_in c.args.self.now in
    rw (residual c.from_residual-in_err-as_truth.ensures.1)
    (truth_fault g c.args.extents.now c.in-Some.count _ c.loop-place.places c.loop-place.place c.loop-place.invariant.so_far
    c.in_ok-at.field-0 c.in_err-as_truth.field-0.0 (omega arith) (sym (c.in_ok-at.ensures ∙ ap g.at (c.deref.ensures.value ∙ c.in_ok-set_position.ensures)))
    (sym c.in_err-as_truth.ensures))

pub loop-place-preserved : goal.loop-place-preserved
loop-place-preserved c =
    let g = elements_in c.args.self.now in
    elim c.if-branch.branch [
      | then-branch+in_ok-push w ↦ (rw (w.places-is, w.in_ok-push.ensures.ok) (record {
        so_far = mask_true g c.args.extents.now c.in-Some.count _ c.loop-place.places c.loop-place.place c.loop-place.invariant.so_far
            c.in_ok-at.field-0 (omega arith) (sym (c.in_ok-at.ensures ∙ ap g.at (c.deref.ensures.value ∙ c.in_ok-set_position.ensures)))
            (sym c.in_ok-as_truth.ensures ∙ ap (λ b. let r : Result Bool Fault = Ok b in r) w.if-branch.true);
        within = All-append (λ k. k < size c.args.extents.now) c.loop-place.places (c.loop-place.place ∷ []) c.loop-place.invariant.within
            (all_of_one (λ k. k < size c.args.extents.now) c.loop-place.place (let e : size c.args.extents.now ≡ c.in-Some.count = c.in-Some.ensures in omega arith));
      }))
      | else-branch w ↦ (rw w.places-is (record {
        so_far = mask_false g c.args.extents.now c.in-Some.count _ c.loop-place.places c.loop-place.place c.loop-place.invariant.so_far
            c.in_ok-at.field-0 (omega arith) (sym (c.in_ok-at.ensures ∙ ap g.at (c.deref.ensures.value ∙ c.in_ok-set_position.ensures)))
            (sym c.in_ok-as_truth.ensures ∙ ap (λ b. let r : Result Bool Fault = Ok b in r) w.if-branch.false);
        within = c.loop-place.invariant.within;
      }))
    ]

pub returns-clause-places : goal.returns-clause-places
returns-clause-places c =
    let g = elements_in c.args.self.now in
    mask_done g c.args.extents.now c.in-Some.count _ c.loop-place.places c.loop-place.place c.loop-place.invariant.so_far (omega arith)
