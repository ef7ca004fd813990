use Rattle.std.proofs.Common.{[], ◌∙◌, ap, sym, take, map, ℕ, Result, Option, Ok, arith, rules}
use Rattle.std.specs.Int.{w128}
use Rattle.std.proofs.Common.{SFits}
use Rattle.std.proofs.lemmas.Int.{to_z-of_z}
use Rattle.tree.specs.declared.ops.Fault.{Fault}
use Rattle.machine.specs.Storage.{offset}
use Rattle.machine.proofs.Residuals.{residual}
use Rattle.tree.specs.Plain.{subscripts, expressions}
use Rattle.tree.specs.View.{expression_of, subscript_of}
use Rattle.meaning.specs.Dialect.{fortran77}
use Rattle.tree.specs.declared.width.Width.TheVariants.{Plain}
use Rattle.meaning.specs.Value.{value_of, subscript_value}
use Rattle.machine.specs.Storage.{bounds_list}
use Rattle.machine.specs.Stored.{names_in, store_in}
use Rattle.run77.specs.Values.{call_of, offset_of}
use Rattle.run77.proofs.ValueLaws.{call_step_fault, call_step, call_end, place_step_fault, place_step, place_end, bin_first_fault, bin_second_fault, un_fault}
use Rattle.run77.proofs.ValueLaws.{place_fault, finds_same, subscript_fault_is, item_value}
use Rattle.run77.proofs.moment.Moment.+value.Goals as goal

pub call-returns-in_err-value : goal.call-returns-in_err-value
call-returns-in_err-value t c =
    let s = store_in c.args.self.now.storage in
    let e = call_step_fault (call_of (fortran77 Plain) c.args.function (expressions (map expression_of c.args.exprs.now)) s) c.args.function c.loop-expr.arguments c.as_slice-expr-items.result.now c.loop-expr.expr-index s
    c.loop-expr.invariant c.expr-item.result c.in_err-value.field-0.0 (omega arith) c.expr-item.is c.in_err-value.ensures in
    residual c.from_residual.ensures.1 ∙ e

pub call-loop-expr-preserved : goal.call-loop-expr-preserved
call-loop-expr-preserved t c =
    let s = store_in c.args.self.now.storage in
    let whole = call_of (fortran77 Plain) c.args.function (expressions (map expression_of c.args.exprs.now)) s in
    let e = call_step whole c.args.function c.loop-expr.arguments c.as_slice-expr-items.result.now c.loop-expr.expr-index s
    c.loop-expr.invariant c.expr-item.result c.in_ok-value.field-0 (omega arith) c.expr-item.is c.in_ok-value.ensures in
    rw c.with-arguments.ensures e

pub call-returns : goal.call-returns
call-returns t c =
    let s = store_in c.args.self.now.storage in
    let whole = call_of (fortran77 Plain) c.args.function (expressions (map expression_of c.args.exprs.now)) s in
    let e = call_end whole c.args.function c.loop-expr.arguments c.as_slice-expr-items.result.now c.loop-expr.expr-index s c.loop-expr.invariant (omega arith) in
    c.call.ensures.value ∙ e

pub offset-returns-in_err-subscript : goal.offset-returns-in_err-subscript
offset-returns-in_err-subscript t c =
    let s = store_in c.args.self.now.storage in
    let bs = bounds_list c.args.dims.now in
    let e = place_step_fault (offset_of (fortran77 Plain) bs (subscripts (map subscript_of c.args.subs.now)) s) bs (take c.loop-sub.numbers.count c.loop-sub.numbers.numbers) c.as_slice-sub-items.result.now c.loop-sub.sub-index s
    c.loop-sub.invariant c.sub-item.result c.in_err-subscript.field-0.0 (omega arith) c.sub-item.is c.in_err-subscript.ensures in
    residual c.from_residual.ensures.1 ∙ e

pub offset-loop-sub-preserved : goal.offset-loop-sub-preserved
offset-loop-sub-preserved t c =
    let s = store_in c.args.self.now.storage in
    let bs = bounds_list c.args.dims.now in
    let e = place_step (offset_of (fortran77 Plain) bs (subscripts (map subscript_of c.args.subs.now)) s) bs (take c.loop-sub.numbers.count c.loop-sub.numbers.numbers) c.as_slice-sub-items.result.now c.loop-sub.sub-index s
    c.loop-sub.invariant c.sub-item.result c.in_ok-subscript.field-0 (omega (arith, c.requires.dimensions)) (omega arith) c.sub-item.is c.in_ok-subscript.ensures in
    let fits : SFits w128 c.in_ok-subscript.field-0 = search rules in
    rw c.push.ensures (rw (to_z-of_z w128 c.in_ok-subscript.field-0 fits) e)

pub offset-returns : goal.offset-returns
offset-returns t c =
    let s = store_in c.args.self.now.storage in
    let bs = bounds_list c.args.dims.now in
    let e = place_end (offset_of (fortran77 Plain) bs (subscripts (map subscript_of c.args.subs.now)) s) bs (take c.loop-sub.numbers.count c.loop-sub.numbers.numbers) c.as_slice-sub-items.result.now c.loop-sub.sub-index s
    c.loop-sub.invariant (omega arith) in
    ap (λ (o : Option ℕ). let r : Result (Option ℕ) Fault = Ok o in r) (c.offset.ensures.place ∙ ap (offset bs) c.as_slice.ensures) ∙ e

pub value-returns-in_err-x-in-Bin : goal.value-returns-in_err-x-in-Bin
value-returns-in_err-x-in-Bin t c =
    let e = bin_first_fault c.in-Bin.op c.in-Bin.a c.in-Bin.b (store_in c.args.self.now.storage) c.in_err-x-in-Bin.field-0.0 (c.in_err-x-in-Bin.ensures ∙ ap (λ e. value_of (fortran77 Plain) (expression_of e) (store_in c.args.self.now.storage)) c.deref-in-Bin.ensures) in
    residual c.from_residual-in_err-x-in-Bin.ensures.1 ∙ sym (ap (λ e. value_of (fortran77 Plain) (expression_of e) (store_in c.args.self.now.storage)) c.in-Bin.is ∙ e)

pub value-returns-in_err-y-in-Bin : goal.value-returns-in_err-y-in-Bin
value-returns-in_err-y-in-Bin t c =
    let e = bin_second_fault c.in-Bin.op c.in-Bin.a c.in-Bin.b (store_in c.args.self.now.storage) c.in_ok-x-in-Bin.x c.in_err-y-in-Bin.field-0.0 (c.in_ok-x-in-Bin.ensures ∙ ap (λ e. value_of (fortran77 Plain) (expression_of e) (store_in c.args.self.now.storage)) c.deref-in-Bin.ensures)
    (c.in_err-y-in-Bin.ensures ∙ ap (λ e. value_of (fortran77 Plain) (expression_of e) (store_in c.args.self.now.storage)) c.deref-in-Bin-2.ensures) in
    residual c.from_residual-in_err-y-in-Bin.ensures.1 ∙ sym (ap (λ e. value_of (fortran77 Plain) (expression_of e) (store_in c.args.self.now.storage)) c.in-Bin.is ∙ e)

pub place-returns-in_err-offset-clause-found : goal.place-returns-in_err-offset-clause-found
place-returns-in_err-offset-clause-found t c =
    let st = c.args.self.now.storage in
    rw (residual c.from_residual.ensures.1)
    (finds_same (names_in st) _ _ (place_fault (names_in st) st.values.items c.args.item.now [] _ c.in_err-offset.ensures))

pub place-returns-in_err-offset-2-clause-found : goal.place-returns-in_err-offset-2-clause-found
place-returns-in_err-offset-2-clause-found t c =
    let st = c.args.self.now.storage in
    rw (residual c.from_residual-in_err-offset-2.ensures.1)
    (finds_same (names_in st) _ _ (place_fault (names_in st) st.values.items c.args.item.now _ _ c.in_err-offset-2.ensures))

pub subscript-returns-in_err-value-in-One : goal.subscript-returns-in_err-value-in-One
subscript-returns-in_err-value-in-One t c =
    let s = store_in c.args.self.now.storage in
    residual c.from_residual.ensures.1
    ∙ sym (ap (λ p. subscript_value (fortran77 Plain) (subscript_of p) s) c.in-One.is ∙ subscript_fault_is c.in-One.expr s _ c.in_err-value-in-One.ensures)

pub value-returns-in_err-x-in-Un : goal.value-returns-in_err-x-in-Un
value-returns-in_err-x-in-Un t c =
    let s = store_in c.args.self.now.storage in
    residual c.from_residual-in_err-x-in-Un.ensures.1
    ∙ sym (ap (λ e. value_of (fortran77 Plain) (expression_of e) s) c.in-Un.is
    ∙ un_fault c.in-Un.op c.in-Un.a s _ (c.in_err-x-in-Un.ensures ∙ ap (λ e. value_of (fortran77 Plain) (expression_of e) s) c.deref.ensures))

pub value-returns-in_ok-place-in-Item : goal.value-returns-in_ok-place-in-Item
value-returns-in_ok-place-in-Item t c =
    let st = c.args.self.now.storage in
    sym (ap (λ e. value_of (fortran77 Plain) (expression_of e) (store_in st)) c.in-Item.is
    ∙ item_value (names_in st) (store_in st) c.in-Item.item _ c.value.result c.in_ok-place-in-Item.ensures.found c.value.ensures)
