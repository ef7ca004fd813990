use Rattle.std.proofs.Common.{◌≡◌, sym, ap, subst, ◌∙◌, rules, [], ◌∷◌, ◌++◌, pos, ◌+ℤ◌, true, false, SFits, to_z, of_z, None}
use Rattle.std.specs.Prelude.{IfSome, MatchOption}
use Rattle.std.specs.Int.{w64, w128}
use Rattle.std.proofs.lemmas.Int.{to_z-of_z}
use Rattle.tree.specs.View.{bounds_of}
use Rattle.meaning.specs.ArrayValues.{each}
use Rattle.meaning.specs.Sections.{triplet_numbers}
use Rattle.array_values.specs.Selections.{bounded, goes_on}
use Rattle.array_values.proofs.Steps.{residual, settled, left_of, left_begun, left_done}
use Rattle.array_values.proofs.Triplets.{along_is, along_fault, triplet_same, numbers_first, goes_first, triplet_fault, triplet_more, left_numbers, fewer_left}
use Rattle.array_values.proofs.sections.triplet.Goals as goal

pub loop-next-init : goal.loop-next-init
loop-next-init c =
    let f = bounded (bounds_of c.args.dim) in
    let l = to_z w128 (of_z w128 c.args.lower) in
    let u = to_z w128 (of_z w128 c.args.upper) in
    let s = to_z w128 (of_z w128 c.args.stride) in
    let nonzero = λ (h : s ≡ pos 0). c.requires (sym (settled c.args.stride c.ranges.stride) ∙ h) in
    record {
      so_far = subst (λ vs. each f (triplet_numbers l u s) ≡ left_of f vs (left_numbers c.first_number-next.result u s)) (sym c.new-selected.ensures)
          (left_begun f (triplet_numbers l u s) ∙ ap (left_of f []) (sym (numbers_first l u s c.first_number-next.result nonzero c.first_number-next.ensures)));
      goes = goes_first (λ z. z ≡ l) u s c.first_number-next.result _ c.first_number-next.ensures;
    }

pub returns-in_err-bounded : goal.returns-in_err-bounded
returns-in_err-bounded c =
    let f = bounded (bounds_of c.args.dim) in
    let l = to_z w128 (of_z w128 c.args.lower) in
    let u = to_z w128 (of_z w128 c.args.upper) in
    let s = to_z w128 (of_z w128 c.args.stride) in
    let z = c.in-Some.number in
    let nonzero = λ (h : s ≡ pos 0). c.requires (sym (settled c.args.stride c.ranges.stride) ∙ h) in
    let small : SFits w128 z = search rules in
    let goes : goes_on z u s ≡ true = subst (λ o. IfSome o (λ z. goes_on z u s ≡ true)) c.in-Some.is c.loop-next.invariant.goes in
    let left : each f (triplet_numbers l u s) ≡ left_of f c.loop-next.selected (triplet_numbers z u s)
    = subst (λ o. each f (triplet_numbers l u s) ≡ left_of f c.loop-next.selected (left_numbers o u s)) c.in-Some.is c.loop-next.invariant.so_far in
    let e = triplet_fault f u s z (each f (triplet_numbers l u s)) c.loop-next.selected nonzero goes left c.in_err-bounded.field-0.0 (sym (c.in_err-bounded.ensures ∙ ap f (settled z small))) in
    rw (residual c.from_residual.ensures.1)
    (along_fault (bounds_of c.args.dim) (triplet_numbers c.args.lower c.args.upper c.args.stride) c.in_err-bounded.field-0.0
    (ap (each f) (triplet_same c.args.lower c.args.upper c.args.stride l u s (settled c.args.lower c.ranges.lower) (settled c.args.upper c.ranges.upper) (settled c.args.stride c.ranges.stride)) ∙ e))

pub loop-next-smaller : goal.loop-next-smaller
loop-next-smaller c =
    let u = to_z w128 (of_z w128 c.args.upper) in
    let s = to_z w128 (of_z w128 c.args.stride) in
    let z = c.in-Some.number in
    let nonzero = λ (h : s ≡ pos 0). c.requires (sym (settled c.args.stride c.ranges.stride) ∙ h) in
    let small : SFits w128 z = search rules in
    let goes : goes_on z u s ≡ true = subst (λ o. IfSome o (λ z. goes_on z u s ≡ true)) c.in-Some.is c.loop-next.invariant.goes in
    fewer_left u s z c.loop-next.next c.next_number-next.result nonzero c.in-Some.is goes
    (subst (λ y. MatchOption c.next_number-next.result (goes_on (y +ℤ s) u s ≡ false) (λ x. (x ≡ y +ℤ s) × (goes_on x u s ≡ true))) (settled z small) c.next_number-next.ensures)

pub loop-next-preserved : goal.loop-next-preserved
loop-next-preserved c =
    let f = bounded (bounds_of c.args.dim) in
    let l = to_z w128 (of_z w128 c.args.lower) in
    let u = to_z w128 (of_z w128 c.args.upper) in
    let s = to_z w128 (of_z w128 c.args.stride) in
    let z = c.in-Some.number in
    let nonzero = λ (h : s ≡ pos 0). c.requires (sym (settled c.args.stride c.ranges.stride) ∙ h) in
    let small : SFits w128 z = search rules in
    let y = c.in_ok-bounded.field-0 in
    let fits : SFits w64 y = search rules in
    let goes : goes_on z u s ≡ true = subst (λ o. IfSome o (λ z. goes_on z u s ≡ true)) c.in-Some.is c.loop-next.invariant.goes in
    let left : each f (triplet_numbers l u s) ≡ left_of f c.loop-next.selected (triplet_numbers z u s)
    = subst (λ o. each f (triplet_numbers l u s) ≡ left_of f c.loop-next.selected (left_numbers o u s)) c.in-Some.is c.loop-next.invariant.so_far in
    let e = triplet_more f u s z (each f (triplet_numbers l u s)) c.loop-next.selected nonzero goes left y (sym (c.in_ok-bounded.ensures ∙ ap f (settled z small))) in
    let after = subst (λ y. MatchOption c.next_number-next.result (goes_on (y +ℤ s) u s ≡ false) (λ x. (x ≡ y +ℤ s) × (goes_on x u s ≡ true))) (settled z small) c.next_number-next.ensures in
    record {
      so_far = subst (λ vs. each f (triplet_numbers l u s) ≡ left_of f vs (left_numbers c.next_number-next.result u s))
          (ap (λ y. c.loop-next.selected ++ y ∷ []) (sym (to_z-of_z w64 y fits)) ∙ sym c.in_ok-push.ensures.ok)
          (e ∙ ap (left_of f (c.loop-next.selected ++ y ∷ [])) (sym (numbers_first (z +ℤ s) u s c.next_number-next.result nonzero after)));
      goes = goes_first (λ x. x ≡ z +ℤ s) u s c.next_number-next.result _ after;
    }

pub returns : goal.returns
returns c =
    let f = bounded (bounds_of c.args.dim) in
    let l = to_z w128 (of_z w128 c.args.lower) in
    let u = to_z w128 (of_z w128 c.args.upper) in
    let s = to_z w128 (of_z w128 c.args.stride) in
    let ends : c.loop-next.next ≡ None = search rules in
    let left : each f (triplet_numbers l u s) ≡ left_of f c.loop-next.selected []
    = subst (λ o. each f (triplet_numbers l u s) ≡ left_of f c.loop-next.selected (left_numbers o u s)) ends c.loop-next.invariant.so_far in
    along_is (bounds_of c.args.dim) (triplet_numbers c.args.lower c.args.upper c.args.stride) c.loop-next.selected
    (ap (each f) (triplet_same c.args.lower c.args.upper c.args.stride l u s (settled c.args.lower c.ranges.lower) (settled c.args.upper c.ranges.upper) (settled c.args.stride c.ranges.stride))
    ∙ left ∙ left_done f c.loop-next.selected)
