use Rattle.std.proofs.Common.{◌≡◌, refl, sym, ap, ◌∙◌, subst, ℕ, ℤ, Bool, true, false, List, [], ◌∷◌, ◌++◌, map, drop, Result, Ok, Err, arith, rules}
use Rattle.std.proofs.lemmas.Int.{ints}
use Rattle.tree.specs.Operators.{apply, call}
use Rattle.tree.specs.Plain.{expressions, subscripts}
use Rattle.tree.specs.View.{expression_of, subscript_of, reference_of, loop_of, constructor_loops}
use Rattle.std.proofs.Common.{to_z, of_z, pos, ◌+ℤ◌, ◌-ℤ◌, ◌<◌}
use Rattle.std.specs.Int.{w128}
use Rattle.tree.specs.declared.exprs.Ref.{out-Ref}
use Rattle.tree.specs.declared.exprs.Turn.{out-Turn}
use Rattle.tree.specs.declared.exprs.Sub.{Sub}
use Rattle.tree.specs.declared.ops.Value.{Value}
use Rattle.tree.specs.declared.ops.Value.TheVariants.{Int}
use Rattle.tree.specs.declared.ops.Fault.{Fault}
use Rattle.meaning.specs.ArrayValues.{Array, settled, scalar_array, spread}
use Rattle.meaning.specs.Dialect.{fortran90}
use Rattle.meaning.specs.Store.{Store}
use Rattle.meaning.specs.Sections.{not_negative}
use Rattle.meaning.specs.Value.{is_scalar, subscript_value, selector, selector_of, value_of, for_numbers}
use Rattle.array_values.specs.declared.prepared.Prepared.{Prepared}
use Rattle.array_values.specs.declared.prepared.Prepared.TheVariants as prepared
use Rattle.array_values.specs.declared.sections.Selector.{Selector as Selector'}
use Rattle.array_values.specs.Answers.{Answers}
use Rattle.array_values.specs.Arrays.{array_in, elements_in, extents_together}
use Rattle.array_values.specs.Selections.{selector_in}
use Rattle.array_values.proofs.Equations.{known_is, call_is}
use Rattle.array_values.proofs.Steps.{residual, same, list_more, list_done}
use Rattle.array_values.proofs.Steps as steps
use Rattle.array_values.specs.storage.Parts.{part_array}
use Rattle.array_values.specs.storage.Stored.{store_in}
use Rattle.array_expressions.specs.Appending.{Appends}
use Rattle.array_expressions.specs.Scopes.{store_at, held_at, constructed}
use Rattle.array_expressions.proofs.EvaluationLaws.{appended_fails, appended_values, listed_fails, values_begun, values_fault, values_more, values_end, subscripts_begun, selectors_begun, selectors_more, arguments_begun, argument_fails, argument_unshaped, argument_more, arguments_end, HaveNumbers, numbers_begun, numbers_past, numbers_fault, numbers_more, numbers_end, fewer_turns, next_is}
use Rattle.array_expressions.proofs.LocalLaws.{bounds_kept}
use Rattle.array_expressions.proofs.ValueLaws.{one_value, part_value, int_value, truth_value, list_value, spread_value, transpose_value, reshape_value}
use Rattle.array_expressions.proofs.Weights.{weight_in_each, weight_in_subs, each_lighter, sub_lighter, last_weight}
use Rattle.array_expressions.proofs.NodeLaws.{un_fails, un_goes, bin_fails, bin_fails_then, bin_goes, call_fails, call_goes, item_fails, item_goes, reduce_fails, reduce_goes}
use Rattle.array_expressions.proofs.NodeLaws.{un_array_fails, un_array_goes, bin_array_fails, bin_array_fails_then, bin_array_goes, call_array_fails, call_array_goes, item_array_fails, item_array_goes, list_array_fails, list_array_goes}
use Rattle.array_expressions.proofs.NodeLaws.{spread_fails, spread_fails_then, spread_goes, transpose_fails, transpose_goes, reshape_fails, reshape_fails_then, reshape_goes, reduce_array_fails, reduce_array_fault, reduce_array_goes, int_array_goes, truth_array_goes}
use Rattle.array_expressions.proofs.NodeLaws.{whole_goes, whole_fails, number_goes, number_fails, known_fails, known_goes, known_whole, one_fails, one_fails_then, one_goes, lower_fails, upper_fails, stride_fails, part_is}
use Rattle.array_expressions.proofs.NodeLaws.{bare_selects, selects_nothing, selects_part, empty_list, no_turns, first_fails, last_fails, turns_go, bound_last}
use Rattle.tree.specs.Widths.{bits_of}
use Rattle.array_expressions.proofs.scope.Scope.+evaluation.Goals as goal

-- ---- values

pub value-returns-in_err-numbers-in-Item : goal.value-returns-in_err-numbers-in-Item
value-returns-in_err-numbers-in-Item t c =
    rw (residual c.from_residual.ensures.1)
    (item_fails c.args.width (store_at c.args.self.now c.args.locals.now) c.args.expr.now c.in-Item.item c.in_err-numbers-in-Item.field-0.0 c.in-Item.is c.in_err-numbers-in-Item.ensures)

pub value-returns-in_ok-numbers-in-Item : goal.value-returns-in_ok-numbers-in-Item
value-returns-in_ok-numbers-in-Item t c =
    let s = store_at c.args.self.now c.args.locals.now in
    item_goes c.args.width s c.args.expr.now c.in-Item.item c.in_ok-numbers-in-Item.numbers c.answer.result c.in-Item.is c.in_ok-numbers-in-Item.ensures
    (same (λ (v : Value). v) _ _ c.answer.result (sym (c.held.ensures ∙ ap (λ is. held_at (out-Ref c.in-Item.item).name is s) c.as_slice.ensures)) c.answer.ensures)

pub value-returns-in_err-x-in-Un : goal.value-returns-in_err-x-in-Un
value-returns-in_err-x-in-Un t c =
    rw (residual c.from_residual-in_err-x-in-Un.ensures.1)
    (un_fails c.args.width (store_at c.args.self.now c.args.locals.now) c.args.expr.now c.in-Un.op c.in-Un.a c.deref.result.now c.in_err-x-in-Un.field-0.0 c.in-Un.is c.deref.ensures c.in_err-x-in-Un.ensures)

pub value-returns-in_ok-x-in-Un : goal.value-returns-in_ok-x-in-Un
value-returns-in_ok-x-in-Un t c =
    un_goes c.args.width (store_at c.args.self.now c.args.locals.now) c.args.expr.now c.in-Un.op c.in-Un.a c.deref.result.now c.in_ok-x-in-Un.x c.answer-in-Un.result c.in-Un.is c.deref.ensures c.in_ok-x-in-Un.ensures
    (same (λ (v : Value). v) _ _ c.answer-in-Un.result (sym c.apply.ensures.value) c.answer-in-Un.ensures)

pub value-returns-in_err-x-in-Bin : goal.value-returns-in_err-x-in-Bin
value-returns-in_err-x-in-Bin t c =
    rw (residual c.from_residual-in_err-x-in-Bin.ensures.1)
    (bin_fails c.args.width (store_at c.args.self.now c.args.locals.now) c.args.expr.now c.in-Bin.op c.in-Bin.a c.in-Bin.b c.deref-in-Bin.result.now c.in_err-x-in-Bin.field-0.0 c.in-Bin.is c.deref-in-Bin.ensures c.in_err-x-in-Bin.ensures)

pub value-returns-in_err-y-in-Bin : goal.value-returns-in_err-y-in-Bin
value-returns-in_err-y-in-Bin t c =
    rw (residual c.from_residual-in_err-y-in-Bin.ensures.1)
    (bin_fails_then c.args.width (store_at c.args.self.now c.args.locals.now) c.args.expr.now c.in-Bin.op c.in-Bin.a c.in-Bin.b c.deref-in-Bin.result.now c.deref-in-Bin-2.result.now c.in_ok-x-in-Bin.x c.in_err-y-in-Bin.field-0.0
    c.in-Bin.is c.deref-in-Bin.ensures c.deref-in-Bin-2.ensures c.in_ok-x-in-Bin.ensures c.in_err-y-in-Bin.ensures)

pub value-returns-in_ok-y-in-Bin : goal.value-returns-in_ok-y-in-Bin
value-returns-in_ok-y-in-Bin t c =
    bin_goes c.args.width (store_at c.args.self.now c.args.locals.now) c.args.expr.now c.in-Bin.op c.in-Bin.a c.in-Bin.b c.deref-in-Bin.result.now c.deref-in-Bin-2.result.now c.in_ok-x-in-Bin.x c.in_ok-y-in-Bin.y c.answer-in-Bin.result
    c.in-Bin.is c.deref-in-Bin.ensures c.deref-in-Bin-2.ensures c.in_ok-x-in-Bin.ensures c.in_ok-y-in-Bin.ensures
    (same (λ (v : Value). v) _ _ c.answer-in-Bin.result (sym c.apply-in-Bin.ensures.value) c.answer-in-Bin.ensures)

pub value-returns-in_err-values-in-Call : goal.value-returns-in_err-values-in-Call
value-returns-in_err-values-in-Call t c =
    rw (residual c.from_residual-in_err-values-in-Call.ensures.1)
    (call_fails c.args.width (store_at c.args.self.now c.args.locals.now) c.args.expr.now c.in-Call.function c.in-Call.exprs c.in_err-values-in-Call.field-0.0 c.in-Call.is c.in_err-values-in-Call.ensures)

pub value-returns-in_ok-values-in-Call : goal.value-returns-in_ok-values-in-Call
value-returns-in_ok-values-in-Call t c =
    call_goes c.args.width (store_at c.args.self.now c.args.locals.now) c.args.expr.now c.in-Call.function c.in-Call.exprs c.in_ok-values-in-Call.values c.answer-in-Call.result c.in-Call.is c.in_ok-values-in-Call.ensures
    (same (λ (v : Value). v) _ _ c.answer-in-Call.result (sym (c.call.ensures ∙ ap (call c.in-Call.function) c.as_slice-in-Call.ensures)) c.answer-in-Call.ensures)

pub value-returns-in_err-array-in-Reduce : goal.value-returns-in_err-array-in-Reduce
value-returns-in_err-array-in-Reduce t c =
    rw (residual c.from_residual-in_err-array-in-Reduce.ensures.1)
    (reduce_fails c.args.width (store_at c.args.self.now c.args.locals.now) c.args.expr.now c.in-Reduce.reduction c.in-Reduce.a c.deref-in-Reduce.result.now c.in_err-array-in-Reduce.field-0.0 c.in-Reduce.is c.deref-in-Reduce.ensures c.in_err-array-in-Reduce.ensures)

pub value-returns-in_ok-array-in-Reduce : goal.value-returns-in_ok-array-in-Reduce
value-returns-in_ok-array-in-Reduce t c =
    reduce_goes c.args.width (store_at c.args.self.now c.args.locals.now) c.args.expr.now c.in-Reduce.reduction c.in-Reduce.a c.deref-in-Reduce.result.now c.in_ok-array-in-Reduce.array c.answer-in-Reduce.result c.in-Reduce.is c.deref-in-Reduce.ensures c.in_ok-array-in-Reduce.ensures
    (same (λ (v : Value). v) _ _ c.answer-in-Reduce.result (sym c.reduce.ensures) c.answer-in-Reduce.ensures)

pub number-returns-in_err-value : goal.number-returns-in_err-value
number-returns-in_err-value t c = rw (residual c.from_residual.ensures.1) (number_fails c.args.width (store_at c.args.self.now c.args.locals.now) c.args.expr.now c.in_err-value.field-0.0 c.in_err-value.ensures)

pub number-returns : goal.number-returns
number-returns t c = number_goes c.args.width (store_at c.args.self.now c.args.locals.now) c.args.expr.now c.in_ok-value.value c.as_number.result c.in_ok-value.ensures c.as_number.ensures

pub values-returns-in_err-push_values : goal.values-returns-in_err-push_values
values-returns-in_err-push_values t c = rw (residual c.from_residual.ensures.1) (appended_fails [] [] _ c.in_err-push_values.field-0.0 c.in_err-push_values.ensures)

pub values-returns : goal.values-returns
values-returns t c = appended_values _ _ _ c.new-values.ensures c.in_ok-push_values.ensures

pub push_values-loop-expr-init : goal.push_values-loop-expr-init
push_values-loop-expr-init t c = values_begun c.args.width (store_at c.args.self.now c.args.locals.now) c.args.all.now c.args.exprs.now c.as_slice-expr-items.result.now c.as_slice-expr-items.ensures

pub push_values-returns-in_err-value : goal.push_values-returns-in_err-value
push_values-returns-in_err-value t c =
    rw (residual c.from_residual.ensures.1)
    (values_fault c.args.width (store_at c.args.self.now c.args.locals.now) c.args.all.now c.loop-expr.all _ c.as_slice-expr-items.result.now c.loop-expr.expr-index c.loop-expr.invariant c.expr-item.result c.in_err-value.field-0.0 c.loop-expr.all
    (omega arith) c.expr-item.is c.in_err-value.ensures)

pub push_values-loop-expr-preserved : goal.push_values-loop-expr-preserved
push_values-loop-expr-preserved t c =
    values_more c.args.width (store_at c.args.self.now c.args.locals.now) c.args.all.now c.loop-expr.all _ c.as_slice-expr-items.result.now c.loop-expr.expr-index c.loop-expr.invariant c.expr-item.result c.in_ok-value.value c.push.new.self
    (omega arith) c.expr-item.is c.in_ok-value.ensures c.in_ok-push.ensures.ok

pub push_values-returns : goal.push_values-returns
push_values-returns t c = values_end c.args.width (store_at c.args.self.now c.args.locals.now) c.args.all.now c.loop-expr.all _ c.as_slice-expr-items.result.now c.loop-expr.expr-index c.loop-expr.invariant (omega arith)

pub numbers-loop-sub-init : goal.numbers-loop-sub-init
numbers-loop-sub-init t c = subscripts_begun c.args.width (store_at c.args.self.now c.args.locals.now) c.args.subs.now c.as_slice-sub-items.result.now c.new-numbers.result c.as_slice-sub-items.ensures c.new-numbers.ensures

pub numbers-returns-in_err-number : goal.numbers-returns-in_err-number
numbers-returns-in_err-number t c =
    rw (residual c.from_residual.ensures.1)
    (listed_fails (λ p. subscript_value (fortran90 c.args.width) (subscript_of p) (store_at c.args.self.now c.args.locals.now)) (λ (zs : List ℤ). zs) (λ (z : ℤ). z) _ c.loop-sub.numbers c.as_slice-sub-items.result.now c.loop-sub.sub-index c.loop-sub.invariant
    c.sub-item.result c.in_err-number.field-0.0 (omega arith) c.sub-item.is c.in_err-number.ensures)

pub numbers-loop-sub-preserved : goal.numbers-loop-sub-preserved
numbers-loop-sub-preserved t c =
    let f = λ (p : Sub). subscript_value (fortran90 c.args.width) (subscript_of p) (store_at c.args.self.now c.args.locals.now) in
    let e = list_more f _ c.loop-sub.numbers c.as_slice-sub-items.result.now c.loop-sub.sub-index c.loop-sub.invariant
    c.sub-item.result c.in_ok-number.number (omega arith) (ap f (sym c.sub-item.is) ∙ c.in_ok-number.ensures) in
    rw c.in_ok-push.ensures.ok (rw (steps.settled c.in_ok-number.number (search rules)) e)

pub numbers-returns : goal.numbers-returns
numbers-returns t c =
    list_done (λ (p : Sub). subscript_value (fortran90 c.args.width) (subscript_of p) (store_at c.args.self.now c.args.locals.now)) _ c.loop-sub.numbers c.as_slice-sub-items.result.now c.loop-sub.sub-index c.loop-sub.invariant (omega arith)

pub subscript-returns-in-One : goal.subscript-returns-in-One
subscript-returns-in-One t c =
    let s = store_at c.args.self.now c.args.locals.now in
    same (λ (z : ℤ). z) _ _ c.number.result (ap (λ p. subscript_value (fortran90 c.args.width) (subscript_of p) s) c.in-One.is ∙ one_value c.args.width s c.in-One.expr) c.number.ensures

pub subscript-returns-in-Part : goal.subscript-returns-in-Part
subscript-returns-in-Part t c =
    let s = store_at c.args.self.now c.args.locals.now in
    ap (λ p. subscript_value (fortran90 c.args.width) (subscript_of p) s) c.in-Part.is ∙ part_value c.args.width s _ _ _

-- ---- arrays

pub array-returns-in_ok-settled-in-Int : goal.array-returns-in_ok-settled-in-Int
array-returns-in_ok-settled-in-Int t c = int_array_goes c.args.width (store_at c.args.self.now c.args.locals.now) c.args.expr.now c.in-Int.number c.in_ok-settled-in-Int.field-0 c.in-Int.is (c.in_ok-settled-in-Int.ensures ∙ ap (λ z. settled (scalar_array (Int z))) (steps.settled c.in-Int.number (search rules)))

pub array-returns-in_ok-settled-in-Truth : goal.array-returns-in_ok-settled-in-Truth
array-returns-in_ok-settled-in-Truth t c = truth_array_goes c.args.width (store_at c.args.self.now c.args.locals.now) c.args.expr.now c.in-Truth.truth c.in_ok-settled-in-Truth.field-0 c.in-Truth.is c.in_ok-settled-in-Truth.ensures

pub array-returns-in_err-selected-in-Item : goal.array-returns-in_err-selected-in-Item
array-returns-in_err-selected-in-Item t c =
    rw (residual c.from_residual-in_err-selected-in-Item.ensures.1)
    (item_array_fails c.args.width (store_at c.args.self.now c.args.locals.now) c.args.expr.now c.in-Item.item c.in_err-selected-in-Item.field-0.0 c.in-Item.is c.in_err-selected-in-Item.ensures)

pub array-returns-in_ok-selected-in-Item : goal.array-returns-in_ok-selected-in-Item
array-returns-in_ok-selected-in-Item t c =
    item_array_goes c.args.width (store_at c.args.self.now c.args.locals.now) c.args.expr.now c.in-Item.item c.in_ok-selected-in-Item.field-0 (prepared.Known c.in_ok-selected-in-Item.field-0) c.in-Item.is c.in_ok-selected-in-Item.ensures (known_is c.in_ok-selected-in-Item.field-0)

pub array-returns-in_err-a-in-Un : goal.array-returns-in_err-a-in-Un
array-returns-in_err-a-in-Un t c =
    rw (residual c.from_residual-in_err-a-in-Un.ensures.1)
    (un_array_fails c.args.width (store_at c.args.self.now c.args.locals.now) c.args.expr.now c.in-Un.op c.in-Un.a c.deref.result.now c.in_err-a-in-Un.field-0.0 c.in-Un.is c.deref.ensures c.in_err-a-in-Un.ensures)

pub array-returns-in_ok-unary-in-Un : goal.array-returns-in_ok-unary-in-Un
array-returns-in_ok-unary-in-Un t c =
    un_array_goes c.args.width (store_at c.args.self.now c.args.locals.now) c.args.expr.now c.in-Un.op c.in-Un.a c.deref.result.now c.in_ok-a-in-Un.a c.in_ok-unary-in-Un.field-0 c.in-Un.is c.deref.ensures c.in_ok-a-in-Un.ensures c.in_ok-unary-in-Un.ensures

pub array-returns-in_err-a-in-Bin : goal.array-returns-in_err-a-in-Bin
array-returns-in_err-a-in-Bin t c =
    rw (residual c.from_residual-in_err-a-in-Bin.ensures.1)
    (bin_array_fails c.args.width (store_at c.args.self.now c.args.locals.now) c.args.expr.now c.in-Bin.op c.in-Bin.a c.in-Bin.b c.deref-in-Bin.result.now c.in_err-a-in-Bin.field-0.0 c.in-Bin.is c.deref-in-Bin.ensures c.in_err-a-in-Bin.ensures)

pub array-returns-in_err-b-in-Bin : goal.array-returns-in_err-b-in-Bin
array-returns-in_err-b-in-Bin t c =
    rw (residual c.from_residual-in_err-b-in-Bin.ensures.1)
    (bin_array_fails_then c.args.width (store_at c.args.self.now c.args.locals.now) c.args.expr.now c.in-Bin.op c.in-Bin.a c.in-Bin.b c.deref-in-Bin.result.now c.deref-in-Bin-2.result.now c.in_ok-a-in-Bin.a c.in_err-b-in-Bin.field-0.0
    c.in-Bin.is c.deref-in-Bin.ensures c.deref-in-Bin-2.ensures c.in_ok-a-in-Bin.ensures c.in_err-b-in-Bin.ensures)

pub array-returns-in_ok-b-in-Bin : goal.array-returns-in_ok-b-in-Bin
array-returns-in_ok-b-in-Bin t c =
    bin_array_goes c.args.width (store_at c.args.self.now c.args.locals.now) c.args.expr.now c.in-Bin.op c.in-Bin.a c.in-Bin.b c.deref-in-Bin.result.now c.deref-in-Bin-2.result.now c.in_ok-a-in-Bin.a c.in_ok-b-in-Bin.b c.binary.result
    c.in-Bin.is c.deref-in-Bin.ensures c.deref-in-Bin-2.ensures c.in_ok-a-in-Bin.ensures c.in_ok-b-in-Bin.ensures c.binary.ensures

pub array-returns-in_err-arguments-in-Call : goal.array-returns-in_err-arguments-in-Call
array-returns-in_err-arguments-in-Call t c =
    rw (residual c.from_residual-in_err-arguments-in-Call.ensures.1)
    (call_array_fails c.args.width (store_at c.args.self.now c.args.locals.now) c.args.expr.now c.in-Call.function c.in-Call.exprs c.in_err-arguments-in-Call.field-0.0 c.in-Call.is c.in_err-arguments-in-Call.ensures)

pub array-returns-in_ok-arguments-in-Call : goal.array-returns-in_ok-arguments-in-Call
array-returns-in_ok-arguments-in-Call t c =
    call_array_goes c.args.width (store_at c.args.self.now c.args.locals.now) c.args.expr.now c.in-Call.function c.in-Call.exprs c.in_ok-arguments-in-Call.field-0 (prepared.Call c.in-Call.function c.in_ok-arguments-in-Call.field-0)
    c.in-Call.is c.in_ok-arguments-in-Call.ensures (call_is c.in-Call.function c.in_ok-arguments-in-Call.field-0)

pub array-returns-in_err-push_turns-in-List : goal.array-returns-in_err-push_turns-in-List
array-returns-in_err-push_turns-in-List t c =
    rw (residual c.from_residual-in_err-push_turns-in-List.ensures.1)
    (list_array_fails c.args.width (store_at c.args.self.now c.args.locals.now) c.args.expr.now c.in-List.values c.in-List.turns c.in_err-push_turns-in-List.field-0.0 c.in-List.is
    (subst (λ ts. Answers (λ (vs : List Value). vs) (constructed c.args.width (expressions (map expression_of c.in-List.values)) (constructor_loops (map loop_of ts)) (store_at c.args.self.now c.args.locals.now)) (Err c.in_err-push_turns-in-List.field-0.0))
    c.as_slice.ensures (appended_fails [] [] _ c.in_err-push_turns-in-List.field-0.0 c.in_err-push_turns-in-List.ensures)))

pub array-returns-in_ok-listed-in-List : goal.array-returns-in_ok-listed-in-List
array-returns-in_ok-listed-in-List t c =
    let s = store_at c.args.self.now c.args.locals.now in
    list_array_goes c.args.width s c.args.expr.now c.in-List.values c.in-List.turns c.push_turns.new.all (prepared.Known c.in_ok-listed-in-List.field-0) c.in-List.is
    (subst (λ ts. constructed c.args.width (expressions (map expression_of c.in-List.values)) (constructor_loops (map loop_of ts)) s ≡ Ok c.push_turns.new.all) c.as_slice.ensures (appended_values _ _ _ c.new-all.ensures c.in_ok-push_turns-in-List.ensures))
    (known_is c.in_ok-listed-in-List.field-0 ∙ ap (λ (a : Array). settled a) c.in_ok-listed-in-List.ensures)

pub array-returns-in_err-a-in-Spread : goal.array-returns-in_err-a-in-Spread
array-returns-in_err-a-in-Spread t c =
    rw (residual c.from_residual-in_err-a-in-Spread.ensures.1)
    (spread_fails c.args.width (store_at c.args.self.now c.args.locals.now) c.args.expr.now c.in-Spread.a c.in-Spread.dimension c.in-Spread.count c.deref-in-Spread.result.now c.in_err-a-in-Spread.field-0.0 c.in-Spread.is c.deref-in-Spread.ensures c.in_err-a-in-Spread.ensures)

pub array-returns-in_err-count-in-Spread : goal.array-returns-in_err-count-in-Spread
array-returns-in_err-count-in-Spread t c =
    rw (residual c.from_residual-in_err-count-in-Spread.ensures.1)
    (spread_fails_then c.args.width (store_at c.args.self.now c.args.locals.now) c.args.expr.now c.in-Spread.a c.in-Spread.dimension c.in-Spread.count c.deref-in-Spread.result.now c.deref-in-Spread-2.result.now c.in_ok-a-in-Spread.a c.in_err-count-in-Spread.field-0.0
    c.in-Spread.is c.deref-in-Spread.ensures c.deref-in-Spread-2.ensures c.in_ok-a-in-Spread.ensures c.in_err-count-in-Spread.ensures)

pub array-returns-in_ok-spread-in-Spread : goal.array-returns-in_ok-spread-in-Spread
array-returns-in_ok-spread-in-Spread t c =
    spread_goes c.args.width (store_at c.args.self.now c.args.locals.now) c.args.expr.now c.in-Spread.a c.in-Spread.dimension c.in-Spread.count c.deref-in-Spread.result.now c.deref-in-Spread-2.result.now c.in_ok-a-in-Spread.a c.in_ok-count-in-Spread.count c.in_ok-spread-in-Spread.field-0
    c.in-Spread.is c.deref-in-Spread.ensures c.deref-in-Spread-2.ensures c.in_ok-a-in-Spread.ensures c.in_ok-count-in-Spread.ensures
    (c.in_ok-spread-in-Spread.ensures ∙ ap (λ n. spread c.in-Spread.dimension n (array_in c.in_ok-a-in-Spread.a)) c.not_negative.ensures
    ∙ ap (λ z. spread c.in-Spread.dimension (not_negative z) (array_in c.in_ok-a-in-Spread.a)) (steps.settled c.in_ok-count-in-Spread.count (search rules)))

pub array-returns-in_err-a-in-Transpose : goal.array-returns-in_err-a-in-Transpose
array-returns-in_err-a-in-Transpose t c =
    rw (residual c.from_residual-in_err-a-in-Transpose.ensures.1)
    (transpose_fails c.args.width (store_at c.args.self.now c.args.locals.now) c.args.expr.now c.in-Transpose.a c.deref-in-Transpose.result.now c.in_err-a-in-Transpose.field-0.0 c.in-Transpose.is c.deref-in-Transpose.ensures c.in_err-a-in-Transpose.ensures)

pub array-returns-in_ok-transposed-in-Transpose : goal.array-returns-in_ok-transposed-in-Transpose
array-returns-in_ok-transposed-in-Transpose t c =
    transpose_goes c.args.width (store_at c.args.self.now c.args.locals.now) c.args.expr.now c.in-Transpose.a c.deref-in-Transpose.result.now c.in_ok-a-in-Transpose.a c.in_ok-transposed-in-Transpose.field-0 c.in-Transpose.is c.deref-in-Transpose.ensures c.in_ok-a-in-Transpose.ensures c.in_ok-transposed-in-Transpose.ensures

pub array-returns-in_err-a-in-Reshape : goal.array-returns-in_err-a-in-Reshape
array-returns-in_err-a-in-Reshape t c =
    rw (residual c.from_residual-in_err-a-in-Reshape.ensures.1)
    (reshape_fails c.args.width (store_at c.args.self.now c.args.locals.now) c.args.expr.now c.in-Reshape.a c.in-Reshape.extents c.deref-in-Reshape.result.now c.in_err-a-in-Reshape.field-0.0 c.in-Reshape.is c.deref-in-Reshape.ensures c.in_err-a-in-Reshape.ensures)

pub array-returns-in_err-extents-in-Reshape : goal.array-returns-in_err-extents-in-Reshape
array-returns-in_err-extents-in-Reshape t c =
    rw (residual c.from_residual-in_err-extents-in-Reshape.ensures.1)
    (reshape_fails_then c.args.width (store_at c.args.self.now c.args.locals.now) c.args.expr.now c.in-Reshape.a c.in-Reshape.extents c.deref-in-Reshape.result.now c.in_ok-a-in-Reshape.a c.in_err-extents-in-Reshape.field-0.0
    c.in-Reshape.is c.deref-in-Reshape.ensures c.in_ok-a-in-Reshape.ensures c.in_err-extents-in-Reshape.ensures)

pub array-returns-in_ok-extents-in-Reshape : goal.array-returns-in_ok-extents-in-Reshape
array-returns-in_ok-extents-in-Reshape t c =
    reshape_goes c.args.width (store_at c.args.self.now c.args.locals.now) c.args.expr.now c.in-Reshape.a c.in-Reshape.extents c.deref-in-Reshape.result.now c.in_ok-a-in-Reshape.a c.in_ok-extents-in-Reshape.extents c.reshaped.result
    c.in-Reshape.is c.deref-in-Reshape.ensures c.in_ok-a-in-Reshape.ensures c.in_ok-extents-in-Reshape.ensures c.reshaped.ensures

pub array-returns-in_err-array-in-Reduce : goal.array-returns-in_err-array-in-Reduce
array-returns-in_err-array-in-Reduce t c =
    rw (residual c.from_residual-in_err-array-in-Reduce.ensures.1)
    (reduce_array_fails c.args.width (store_at c.args.self.now c.args.locals.now) c.args.expr.now c.in-Reduce.reduction c.in-Reduce.a c.deref-in-Reduce.result.now c.in_err-array-in-Reduce.field-0.0 c.in-Reduce.is c.deref-in-Reduce.ensures c.in_err-array-in-Reduce.ensures)

pub array-returns-in_err-value-in-Reduce : goal.array-returns-in_err-value-in-Reduce
array-returns-in_err-value-in-Reduce t c =
    rw (residual c.from_residual-in_err-value-in-Reduce.ensures.1)
    (reduce_array_fault c.args.width (store_at c.args.self.now c.args.locals.now) c.args.expr.now c.in-Reduce.reduction c.in-Reduce.a c.deref-in-Reduce.result.now c.in_ok-array-in-Reduce.array c.in_err-value-in-Reduce.field-0.0
    c.in-Reduce.is c.deref-in-Reduce.ensures c.in_ok-array-in-Reduce.ensures c.in_err-value-in-Reduce.ensures)

pub array-returns-in_ok-settled-in-Reduce : goal.array-returns-in_ok-settled-in-Reduce
array-returns-in_ok-settled-in-Reduce t c =
    reduce_array_goes c.args.width (store_at c.args.self.now c.args.locals.now) c.args.expr.now c.in-Reduce.reduction c.in-Reduce.a c.deref-in-Reduce.result.now c.in_ok-array-in-Reduce.array c.in_ok-value-in-Reduce.value c.in_ok-settled-in-Reduce.field-0
    c.in-Reduce.is c.deref-in-Reduce.ensures c.in_ok-array-in-Reduce.ensures c.in_ok-value-in-Reduce.ensures c.in_ok-settled-in-Reduce.ensures

pub in_whole-returns-in_err-array : goal.in_whole-returns-in_err-array
in_whole-returns-in_err-array t c = rw (residual c.from_residual.ensures.1) (whole_fails c.args.width (store_at c.args.self.now c.args.locals.now) c.args.expr.now c.in_err-array.field-0.0 c.in_err-array.ensures)

pub in_whole-returns : goal.in_whole-returns
in_whole-returns t c = whole_goes c.args.width (store_at c.args.self.now c.args.locals.now) c.args.expr.now c.in_ok-array.array c.in_whole.result c.in_ok-array.ensures c.in_whole.ensures

pub known-returns-then-not-is_scalar : goal.known-returns-then-not-is_scalar
known-returns-then-not-is_scalar t c =
    known_whole c.args.width (store_at c.args.self.now c.args.locals.now) c.args.expr.now c.in_whole.result
    (ap (is_scalar (expression_of c.args.expr.now)) (bounds_kept c.args.locals.now (store_in c.args.self.now.storage.now)) ∙ sym c.is_scalar.ensures ∙ c.if-not-is_scalar.true) c.in_whole.ensures

pub known-returns-in_err-value : goal.known-returns-in_err-value
known-returns-in_err-value t c =
    rw (residual c.from_residual.ensures.1)
    (known_fails c.args.width (store_at c.args.self.now c.args.locals.now) c.args.expr.now c.in_err-value.field-0.0
    (ap (is_scalar (expression_of c.args.expr.now)) (bounds_kept c.args.locals.now (store_in c.args.self.now.storage.now)) ∙ sym c.is_scalar.ensures ∙ c.if-not-is_scalar.false) c.in_err-value.ensures)

pub known-returns : goal.known-returns
known-returns t c =
    known_goes c.args.width (store_at c.args.self.now c.args.locals.now) c.args.expr.now c.in_ok-value.value c.in_ok-scalar.field-0
    (ap (is_scalar (expression_of c.args.expr.now)) (bounds_kept c.args.locals.now (store_in c.args.self.now.storage.now)) ∙ sym c.is_scalar.ensures ∙ c.if-not-is_scalar.false) c.in_ok-value.ensures c.in_ok-scalar.ensures

pub arguments-loop-expr-init : goal.arguments-loop-expr-init
arguments-loop-expr-init t c = arguments_begun c.args.width (store_at c.args.self.now c.args.locals.now) c.args.exprs.now c.as_slice-expr-items.result.now c.new-parts.result c.as_slice-expr-items.ensures c.new-parts.ensures

pub arguments-returns-in_err-part : goal.arguments-returns-in_err-part
arguments-returns-in_err-part t c =
    rw (residual c.from_residual.ensures.1)
    (argument_fails c.args.width (store_at c.args.self.now c.args.locals.now) _ c.loop-expr.parts c.as_slice-expr-items.result.now c.loop-expr.expr-index c.loop-expr.invariant c.expr-item.result (omega arith) c.expr-item.is c.in_err-part.field-0.0 c.in_err-part.ensures)

pub arguments-returns-in_err-check_conform : goal.arguments-returns-in_err-check_conform
arguments-returns-in_err-check_conform t c =
    rw (residual c.from_residual-in_err-check_conform.ensures.1)
    (argument_unshaped c.args.width (store_at c.args.self.now c.args.locals.now) _ c.loop-expr.parts c.as_slice-expr-items.result.now c.loop-expr.expr-index c.loop-expr.invariant c.expr-item.result (omega arith) c.expr-item.is c.in_ok-part.part c.in_ok-part.ensures
    c.common_extents.result.now c.extents.result.now (c.common_extents.ensures ∙ ap (λ ps. extents_together [] (map elements_in ps)) c.as_slice.ensures) c.extents.ensures c.in_err-check_conform.field-0.0 c.in_err-check_conform.ensures)

pub arguments-loop-expr-preserved : goal.arguments-loop-expr-preserved
arguments-loop-expr-preserved t c =
    argument_more c.args.width (store_at c.args.self.now c.args.locals.now) _ c.loop-expr.parts c.as_slice-expr-items.result.now c.loop-expr.expr-index c.loop-expr.invariant c.expr-item.result (omega arith) c.expr-item.is c.in_ok-part.part c.in_ok-part.ensures
    c.common_extents.result.now c.extents.result.now (c.common_extents.ensures ∙ ap (λ ps. extents_together [] (map elements_in ps)) c.as_slice.ensures) c.extents.ensures c.push.new.self c.in_ok-check_conform.ensures c.in_ok-push.ensures.ok

pub arguments-returns : goal.arguments-returns
arguments-returns t c = arguments_end c.args.width (store_at c.args.self.now c.args.locals.now) _ c.loop-expr.parts c.as_slice-expr-items.result.now c.loop-expr.expr-index c.loop-expr.invariant (omega arith)

-- ---- references

pub selected-returns-then-is_empty : goal.selected-returns-then-is_empty
selected-returns-then-is_empty t c = bare_selects c.args.width c.args.locals.now (store_in c.args.self.now.storage.now) c.args.item.now c.whole.result (c.is_empty.ensures.0 c.if-is_empty.true) c.whole.ensures

pub selected-returns-in_err-selectors : goal.selected-returns-in_err-selectors
selected-returns-in_err-selectors t c =
    rw (residual c.from_residual.ensures.1)
    (selects_nothing c.args.width c.args.locals.now (store_in c.args.self.now.storage.now) c.args.item.now c.in_err-selectors.field-0.0 (λ e. (let b = c.is_empty.ensures.1 e in cc)) c.in_err-selectors.ensures)

pub selected-returns : goal.selected-returns
selected-returns t c =
    selects_part c.args.width c.args.locals.now (store_in c.args.self.now.storage.now) c.args.item.now (map selector_in c.in_ok-selectors.selectors) c.part.result (λ e. (let b = c.is_empty.ensures.1 e in cc)) c.in_ok-selectors.ensures
    (same array_in _ _ c.part.result (ap (λ zs. part_array (out-Ref c.args.item.now).name (map selector_in zs) (store_in c.args.self.now.storage.now)) (sym c.as_slice.ensures)) c.part.ensures)

pub selectors-loop-sub-init : goal.selectors-loop-sub-init
selectors-loop-sub-init t c = selectors_begun c.args.width (store_at c.args.self.now c.args.locals.now) c.args.subs.now c.as_slice-sub-items.result.now c.new-selectors.result c.as_slice-sub-items.ensures c.new-selectors.ensures

pub selectors-returns-in_err-selector : goal.selectors-returns-in_err-selector
selectors-returns-in_err-selector t c =
    rw (residual c.from_residual.ensures.1)
    (listed_fails (λ p. selector (fortran90 c.args.width) (subscript_of p) (store_at c.args.self.now c.args.locals.now)) (λ (zs : List Selector'). map selector_in zs) selector_in _ (map selector_in c.loop-sub.selectors) c.as_slice-sub-items.result.now c.loop-sub.sub-index c.loop-sub.invariant
    c.sub-item.result c.in_err-selector.field-0.0 (omega arith) c.sub-item.is c.in_err-selector.ensures)

pub selectors-loop-sub-preserved : goal.selectors-loop-sub-preserved
selectors-loop-sub-preserved t c =
    selectors_more c.args.width (store_at c.args.self.now c.args.locals.now) _ c.loop-sub.selectors c.push.new.self c.as_slice-sub-items.result.now c.loop-sub.sub-index c.loop-sub.invariant
    c.sub-item.result c.in_ok-selector.selector (omega arith) c.sub-item.is c.in_ok-selector.ensures c.in_ok-push.ensures.ok

pub selectors-returns : goal.selectors-returns
selectors-returns t c =
    list_done (λ (p : Sub). selector (fortran90 c.args.width) (subscript_of p) (store_at c.args.self.now c.args.locals.now)) _ (map selector_in c.loop-sub.selectors) c.as_slice-sub-items.result.now c.loop-sub.sub-index c.loop-sub.invariant (omega arith)

pub selector-returns-in_err-known-in-One : goal.selector-returns-in_err-known-in-One
selector-returns-in_err-known-in-One t c =
    rw (residual c.from_residual.ensures.1)
    (one_fails c.args.width (store_at c.args.self.now c.args.locals.now) c.args.sub.now c.in-One.expr c.in_err-known-in-One.field-0.0 c.in-One.is c.in_err-known-in-One.ensures)

pub selector-returns-in_err-numbers-in-One : goal.selector-returns-in_err-numbers-in-One
selector-returns-in_err-numbers-in-One t c =
    rw (residual c.from_residual-in_err-numbers-in-One.ensures.1)
    (one_fails_then c.args.width (store_at c.args.self.now c.args.locals.now) c.args.sub.now c.in-One.expr c.in_ok-known-in-One.known c.in_err-numbers-in-One.field-0.0 c.in-One.is c.in_ok-known-in-One.ensures c.in_err-numbers-in-One.ensures)

pub selector-returns-in_ok-numbers-in-One : goal.selector-returns-in_ok-numbers-in-One
selector-returns-in_ok-numbers-in-One t c =
    one_goes c.args.width (store_at c.args.self.now c.args.locals.now) c.args.sub.now c.in-One.expr c.in_ok-known-in-One.known c.in_ok-numbers-in-One.numbers c.selector_of.result c.in-One.is c.in_ok-known-in-One.ensures c.in_ok-numbers-in-One.ensures
    (c.selector_of.ensures ∙ ap (λ ns. selector_of ns c.in_ok-numbers-in-One.numbers) c.as_slice.ensures)

pub selector-returns-in_err-lower-in-Part : goal.selector-returns-in_err-lower-in-Part
selector-returns-in_err-lower-in-Part t c =
    rw (residual c.from_residual-in_err-lower-in-Part.ensures.1)
    (lower_fails c.args.width (store_at c.args.self.now c.args.locals.now) c.args.sub.now c.in-Part.lower c.in-Part.upper c.in-Part.stride c.in_err-lower-in-Part.field-0.0 c.in-Part.is c.in_err-lower-in-Part.ensures)

pub selector-returns-in_err-upper-in-Part : goal.selector-returns-in_err-upper-in-Part
selector-returns-in_err-upper-in-Part t c =
    rw (residual c.from_residual-in_err-upper-in-Part.ensures.1)
    (upper_fails c.args.width (store_at c.args.self.now c.args.locals.now) c.args.sub.now c.in-Part.lower c.in-Part.upper c.in-Part.stride c.in_ok-lower-in-Part.lower c.in_err-upper-in-Part.field-0.0 c.in-Part.is c.in_ok-lower-in-Part.ensures c.in_err-upper-in-Part.ensures)

pub selector-returns-in_err-stride-in-Part : goal.selector-returns-in_err-stride-in-Part
selector-returns-in_err-stride-in-Part t c =
    rw (residual c.from_residual-in_err-stride-in-Part.ensures.1)
    (stride_fails c.args.width (store_at c.args.self.now c.args.locals.now) c.args.sub.now c.in-Part.lower c.in-Part.upper c.in-Part.stride c.in_ok-lower-in-Part.lower c.in_ok-upper-in-Part.upper c.in_err-stride-in-Part.field-0.0
    c.in-Part.is c.in_ok-lower-in-Part.ensures c.in_ok-upper-in-Part.ensures c.in_err-stride-in-Part.ensures)

pub selector-returns-in_ok-stride-in-Part : goal.selector-returns-in_ok-stride-in-Part
selector-returns-in_ok-stride-in-Part t c =
    rw (steps.settled c.in_ok-lower-in-Part.lower (search rules), steps.settled c.in_ok-upper-in-Part.upper (search rules), steps.settled c.in_ok-stride-in-Part.stride (search rules))
    (part_is c.args.width (store_at c.args.self.now c.args.locals.now) c.args.sub.now c.in-Part.lower c.in-Part.upper c.in-Part.stride c.in_ok-lower-in-Part.lower c.in_ok-upper-in-Part.upper c.in_ok-stride-in-Part.stride
    c.in-Part.is c.in_ok-lower-in-Part.ensures c.in_ok-upper-in-Part.ensures c.in_ok-stride-in-Part.ensures)

-- ---- constructors

pub push_turns-returns-in_default : goal.push_turns-returns-in_default
push_turns-returns-in_default t c = no_turns c.args.width (expressions (map expression_of c.args.values.now)) c.args.turns.now (store_at c.args.self.now c.args.locals.now) c.args.all.now c.push_values.new.all c.push_values.result (empty_list c.args.turns.now c.in_default.ensures.cases) c.push_values.ensures

pub push_turns-returns-in_err-first : goal.push_turns-returns-in_err-first
push_turns-returns-in_err-first t c =
    rw (residual c.from_residual.ensures.1)
    (first_fails c.args.width (expressions (map expression_of c.args.values.now)) c.args.turns.now (store_at c.args.self.now c.args.locals.now) c.args.all.now c.args.all.now c.in-Some.inner.now c.in-Some.turn.now c.in-Some.ensures.cases.0 c.in_err-first.field-0.0 c.in_err-first.ensures)

pub push_turns-returns-in_err-last : goal.push_turns-returns-in_err-last
push_turns-returns-in_err-last t c =
    rw (residual c.from_residual-in_err-last.ensures.1)
    (last_fails c.args.width (expressions (map expression_of c.args.values.now)) c.args.turns.now (store_at c.args.self.now c.args.locals.now) c.args.all.now c.args.all.now c.in-Some.inner.now c.in-Some.turn.now c.in-Some.ensures.cases.0 c.in_ok-first.first c.in_err-last.field-0.0 c.in_ok-first.ensures c.in_err-last.ensures)

pub push_turns-returns : goal.push_turns-returns
push_turns-returns t c =
    let s = store_at c.args.self.now c.args.locals.now in
    let f = λ (u : Store). constructed c.args.width (expressions (map expression_of c.args.values.now)) (constructor_loops (map loop_of c.in-Some.inner.now)) u in
    let x = (out-Turn c.in-Some.turn.now).var in
    turns_go c.args.width (expressions (map expression_of c.args.values.now)) c.args.turns.now s c.args.all.now c.push_numbers.new.all c.in-Some.inner.now c.in-Some.turn.now c.in-Some.ensures.cases.0 c.in_ok-first.first c.in_ok-last.last c.push_numbers.result
    c.in_ok-first.ensures c.in_ok-last.ensures
    (subst (λ b. Appends c.args.all.now c.push_numbers.new.all (for_numbers (bits_of c.args.width) x c.in_ok-first.first b f s) c.push_numbers.result) (steps.settled c.in_ok-last.last (search rules))
    (subst (λ a. Appends c.args.all.now c.push_numbers.new.all (for_numbers (bits_of c.args.width) x a (to_z w128 (of_z w128 c.in_ok-last.last)) f s) c.push_numbers.result) (steps.settled c.in_ok-first.first (search rules)) c.push_numbers.ensures))

pub push_numbers-loop-number-init : goal.push_numbers-loop-number-init
push_numbers-loop-number-init t c =
    let s = store_at c.args.self.now c.args.locals.now in
    let f = λ (u : Store). constructed c.args.width (expressions (map expression_of c.args.values.now)) (constructor_loops (map loop_of c.args.inner.now)) u in
    subst (λ z. HaveNumbers c.args.width f s c.args.all.now c.args.all.now c.args.numbers.name c.args.numbers.first z c.args.numbers.last) (sym (steps.settled c.args.numbers.first (search rules)))
    (numbers_begun c.args.width f s c.args.all.now c.args.numbers.name c.args.numbers.first c.args.numbers.last)

pub push_numbers-returns-then-not-holds : goal.push_numbers-returns-then-not-holds
push_numbers-returns-then-not-holds t c =
    numbers_past c.args.width (constructed c.args.width (expressions (map expression_of c.args.values.now)) (constructor_loops (map loop_of c.args.inner.now))) (store_at c.args.self.now c.args.locals.now) c.args.all.now c.loop-number.all c.args.numbers.name c.args.numbers.first (to_z w128 c.loop-number.number-bits) c.args.numbers.last
    c.loop-number.invariant c.loop-number.all (omega (arith, ints)) (sym c.holds.ensures ∙ c.if-not-holds.true)

pub push_numbers-returns-in_err-push_turns : goal.push_numbers-returns-in_err-push_turns
push_numbers-returns-in_err-push_turns t c =
    let es = expressions (map expression_of c.args.values.now) in
    let ls = constructor_loops (map loop_of c.args.inner.now) in
    let s = store_at c.args.self.now c.args.locals.now in
    rw (residual c.from_residual-in_err-push_turns.ensures.1)
    (numbers_fault c.args.width (constructed c.args.width es ls) s c.args.all.now c.loop-number.all c.args.numbers.name c.args.numbers.first (to_z w128 c.loop-number.number-bits) c.args.numbers.last
    c.loop-number.invariant c.loop-number.all c.push_turns.new.all c.in_err-push_turns.field-0.0 (omega (arith, ints)) (sym c.holds.ensures ∙ c.if-not-holds.false)
    (subst (λ (u : Store). Appends c.loop-number.all c.push_turns.new.all (constructed c.args.width es ls u) (Err c.in_err-push_turns.field-0.0))
    (bound_last c.args.locals.now c.deref.result.now _ (store_in c.args.self.now.storage.now) (c.deref.ensures.value ∙ c.in_ok-own.ensures)) c.in_err-push_turns.ensures))

pub push_numbers-loop-number-preserved : goal.push_numbers-loop-number-preserved
push_numbers-loop-number-preserved t c =
    let es = expressions (map expression_of c.args.values.now) in
    let ls = constructor_loops (map loop_of c.args.inner.now) in
    let s = store_at c.args.self.now c.args.locals.now in
    subst (λ z. HaveNumbers c.args.width (constructed c.args.width es ls) s c.args.all.now c.push_turns.new.all c.args.numbers.name c.args.numbers.first z c.args.numbers.last) (sym (next_is c.args.width (to_z w128 c.loop-number.number-bits) (sym c.holds.ensures ∙ c.if-not-holds.false)))
    (numbers_more c.args.width (constructed c.args.width es ls) s c.args.all.now c.loop-number.all c.args.numbers.name c.args.numbers.first (to_z w128 c.loop-number.number-bits) c.args.numbers.last
    c.loop-number.invariant c.push_turns.new.all (omega (arith, ints)) (sym c.holds.ensures ∙ c.if-not-holds.false)
    (subst (λ (u : Store). Appends c.loop-number.all c.push_turns.new.all (constructed c.args.width es ls u) (Ok tt))
    (bound_last c.args.locals.now c.deref.result.now _ (store_in c.args.self.now.storage.now) (c.deref.ensures.value ∙ c.in_ok-own.ensures)) c.in_ok-push_turns.ensures))

pub push_numbers-returns : goal.push_numbers-returns
push_numbers-returns t c =
    numbers_end c.args.width (constructed c.args.width (expressions (map expression_of c.args.values.now)) (constructor_loops (map loop_of c.args.inner.now))) (store_at c.args.self.now c.args.locals.now) c.args.all.now c.loop-number.all c.args.numbers.name c.args.numbers.first (to_z w128 c.loop-number.number-bits) c.args.numbers.last
    c.loop-number.invariant (omega (arith, ints))

pub push_numbers-loop-number-smaller : goal.push_numbers-loop-number-smaller
push_numbers-loop-number-smaller t c =
    let z = to_z w128 c.loop-number.number-bits in
    let u = c.args.numbers.last in
    subst (λ n. not_negative (u -ℤ n +ℤ pos 1) < not_negative (u -ℤ z +ℤ pos 1)) (sym (next_is c.args.width z (sym c.holds.ensures ∙ c.if-not-holds.false)))
    (fewer_turns c.args.width c.args.numbers.name (constructed c.args.width (expressions (map expression_of c.args.values.now)) (constructor_loops (map loop_of c.args.inner.now))) (store_at c.args.self.now c.args.locals.now) z u (omega (arith, ints)))

-- ---- what is evaluated weighs less

pub arguments-array-requires : goal.arguments-array-requires
arguments-array-requires t c =
    let h = each_lighter c.as_slice-expr-items.result.now c.loop-expr.expr-index c.expr-item.result (omega arith) c.expr-item.is in
    let e = ap weight_in_each c.as_slice-expr-items.ensures in
    omega (arith, h, e)

pub push_values-value-requires : goal.push_values-value-requires
push_values-value-requires t c =
    let h = each_lighter c.as_slice-expr-items.result.now c.loop-expr.expr-index c.expr-item.result (omega arith) c.expr-item.is in
    let e = ap weight_in_each c.as_slice-expr-items.ensures in
    omega (arith, h, e)

pub numbers-subscript-requires : goal.numbers-subscript-requires
numbers-subscript-requires t c =
    let h = sub_lighter c.as_slice-sub-items.result.now c.loop-sub.sub-index c.sub-item.result (omega arith) c.sub-item.is in
    let e = ap weight_in_subs c.as_slice-sub-items.ensures in
    omega (arith, h, e)

pub selectors-selector-requires : goal.selectors-selector-requires
selectors-selector-requires t c =
    let h = sub_lighter c.as_slice-sub-items.result.now c.loop-sub.sub-index c.sub-item.result (omega arith) c.sub-item.is in
    let e = ap weight_in_subs c.as_slice-sub-items.ensures in
    omega (arith, h, e)

pub push_turns-number-requires : goal.push_turns-number-requires
push_turns-number-requires t c = (let h = last_weight c.args.turns.now c.in-Some.inner.now c.in-Some.turn.now c.in-Some.ensures.cases.0 in omega (arith, h))

pub push_turns-number-requires-2 : goal.push_turns-number-requires-2
push_turns-number-requires-2 t c = (let h = last_weight c.args.turns.now c.in-Some.inner.now c.in-Some.turn.now c.in-Some.ensures.cases.0 in omega (arith, h))

pub push_turns-push_numbers-requires : goal.push_turns-push_numbers-requires
push_turns-push_numbers-requires t c = (let h = last_weight c.args.turns.now c.in-Some.inner.now c.in-Some.turn.now c.in-Some.ensures.cases.0 in omega (arith, h))

-- ---- nodes without parts

pub value-returns-in-Int : goal.value-returns-in-Int
value-returns-in-Int t c =
    let s = store_at c.args.self.now c.args.locals.now in
    rw (steps.settled c.in-Int.number (search rules)) (ap (λ e. value_of (fortran90 c.args.width) (expression_of e) s) c.in-Int.is ∙ int_value c.args.width s c.in-Int.number)

pub value-returns-in-Truth : goal.value-returns-in-Truth
value-returns-in-Truth t c = (let s = store_at c.args.self.now c.args.locals.now in ap (λ e. value_of (fortran90 c.args.width) (expression_of e) s) c.in-Truth.is ∙ truth_value c.args.width s c.in-Truth.truth)

pub value-returns-in-List : goal.value-returns-in-List
value-returns-in-List t c = (let s = store_at c.args.self.now c.args.locals.now in ap (λ e. value_of (fortran90 c.args.width) (expression_of e) s) c.in-List.is ∙ list_value c.args.width s _ _)

pub value-returns-in-Spread : goal.value-returns-in-Spread
value-returns-in-Spread t c = (let s = store_at c.args.self.now c.args.locals.now in ap (λ e. value_of (fortran90 c.args.width) (expression_of e) s) c.in-Spread.is ∙ spread_value c.args.width s _ _ _)

pub value-returns-in-Transpose : goal.value-returns-in-Transpose
value-returns-in-Transpose t c = (let s = store_at c.args.self.now c.args.locals.now in ap (λ e. value_of (fortran90 c.args.width) (expression_of e) s) c.in-Transpose.is ∙ transpose_value c.args.width s _)

pub value-returns-in-Reshape : goal.value-returns-in-Reshape
value-returns-in-Reshape t c = (let s = store_at c.args.self.now c.args.locals.now in ap (λ e. value_of (fortran90 c.args.width) (expression_of e) s) c.in-Reshape.is ∙ reshape_value c.args.width s _ _)
