use Rattle.std.proofs.Common.{◌≡◌, sym, ap, subst, ◌∙◌, arith, rules, pos, get_or, SFits}
use Rattle.std.specs.Int.{w64, w128}
use Rattle.std.proofs.lemmas.Int.{to_z-of_z}
use Rattle.tree.specs.View.{bounds_of}
use Rattle.meaning.specs.ArrayValues.{each}
use Rattle.array_values.specs.Selections.{bounded}
use Rattle.array_values.proofs.Steps.{residual, settled, left_of, left_begun, list_fault, list_more, list_done}
use Rattle.array_values.proofs.Triplets.{along_is, along_fault}
use Rattle.array_values.proofs.sections.along.Goals as goal

pub loop-number-init : goal.loop-number-init
loop-number-init c =
    let f = bounded (bounds_of c.args.dim) in
    subst (λ vs. each f c.args.numbers.now ≡ left_of f vs c.args.numbers.now) (sym c.new-selected.ensures) (left_begun f c.args.numbers.now)

pub returns-in_err-bounded : goal.returns-in_err-bounded
returns-in_err-bounded c =
    let f = bounded (bounds_of c.args.dim) in
    rw (residual c.from_residual.ensures.1)
    (along_fault (bounds_of c.args.dim) c.args.numbers.now c.in_err-bounded.field-0.0
    (list_fault f _ c.loop-number.selected c.args.numbers.now c.loop-number.number-index c.loop-number.invariant
    (pos 0) c.in_err-bounded.field-0.0 (omega arith)
    (let x = get_or c.args.numbers.now c.loop-number.number-index (pos 0) in let fits : SFits w128 x = search rules in sym (c.in_err-bounded.ensures ∙ ap f (settled x fits)))))

pub loop-number-preserved : goal.loop-number-preserved
loop-number-preserved c =
    let f = bounded (bounds_of c.args.dim) in
    let e = list_more f _ c.loop-number.selected c.args.numbers.now c.loop-number.number-index c.loop-number.invariant
    (pos 0) c.in_ok-bounded.field-0 (omega arith)
    (let x = get_or c.args.numbers.now c.loop-number.number-index (pos 0) in let fits : SFits w128 x = search rules in sym (c.in_ok-bounded.ensures ∙ ap f (settled x fits))) in
    let small : SFits w64 c.in_ok-bounded.field-0 = search rules in
    rw c.in_ok-push.ensures.ok (rw (to_z-of_z w64 c.in_ok-bounded.field-0 small) e)

pub returns : goal.returns
returns c =
    let f = bounded (bounds_of c.args.dim) in
    along_is (bounds_of c.args.dim) c.args.numbers.now c.loop-number.selected
    (list_done f _ c.loop-number.selected c.args.numbers.now c.loop-number.number-index c.loop-number.invariant (omega arith))
