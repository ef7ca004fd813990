use Rattle.std.proofs.Common.{sym, refl, ap, ◌∙◌, ℤ, Result, Ok, rules, SFits}
use Rattle.std.specs.Int.{w128}
use Rattle.std.proofs.lemmas.Int.{to_z-of_z}
use Rattle.tree.specs.declared.ops.Value.{Value}
use Rattle.tree.specs.declared.ops.Value.TheVariants.{Int}
use Rattle.tree.specs.declared.ops.Fault.{Fault}
use Rattle.meaning.specs.Dialect.{fortran77}
use Rattle.f77_names.specs.constants.Constants.{value_in, store_of}
use Rattle.f77_names.specs.constants.Steps.{given}
use Rattle.f77_names.proofs.constants.ValueLaws.{value-item, values_more, faults_more}
use Rattle.f77_names.proofs.constants.ValueLaws.{int_found, truth_found, un_found, bin_found, call_found, array_fails, whole_fails, one_found, part_fails}
use Rattle.f77_names.proofs.constants.constants.Constants.+values.Goals as goal

pub evaluate-returns-in-Int : goal.evaluate-returns-in-Int
evaluate-returns-in-Int t c =
    let fits : SFits w128 c.in-Int.number = search rules in
    ap (λ (z : ℤ). let answer : Result Value Fault = Ok (Int z) in answer) (to_z-of_z w128 c.in-Int.number fits)
    ∙ int_found (fortran77 c.args.self.now.width) (store_of c.args.self.now) c.args.expr.now c.in-Int.number c.in-Int.is

pub evaluate-returns-in-Truth : goal.evaluate-returns-in-Truth
evaluate-returns-in-Truth t c = truth_found (fortran77 c.args.self.now.width) (store_of c.args.self.now) c.args.expr.now c.in-Truth.truth c.in-Truth.is

pub evaluate-returns-in_ok-a-in-Un : goal.evaluate-returns-in_ok-a-in-Un
evaluate-returns-in_ok-a-in-Un t c =
    un_found (fortran77 c.args.self.now.width) (store_of c.args.self.now) c.args.expr.now c.deref.result.now c.in-Un.op c.in-Un.a c.in_ok-a-in-Un.a c.apply_to.result
    c.in-Un.is c.deref.ensures c.in_ok-a-in-Un.ensures c.apply_to.ensures

pub evaluate-returns-in_ok-b-in-Bin : goal.evaluate-returns-in_ok-b-in-Bin
evaluate-returns-in_ok-b-in-Bin t c =
    bin_found (fortran77 c.args.self.now.width) (store_of c.args.self.now) c.args.expr.now c.deref-in-Bin.result.now c.deref-in-Bin-2.result.now c.in-Bin.op c.in-Bin.a c.in-Bin.b
    c.in_ok-a-in-Bin.a c.in_ok-b-in-Bin.b c.combine.result
    c.in-Bin.is c.deref-in-Bin.ensures c.deref-in-Bin-2.ensures c.in_ok-a-in-Bin.ensures c.in_ok-b-in-Bin.ensures c.combine.ensures

pub evaluate-returns-in_ok-arguments-in-Call : goal.evaluate-returns-in_ok-arguments-in-Call
evaluate-returns-in_ok-arguments-in-Call t c =
    call_found (fortran77 c.args.self.now.width) (store_of c.args.self.now) c.args.expr.now c.in-Call.function c.in-Call.arguments c.in_ok-arguments-in-Call.arguments c.call.result
    c.in-Call.is c.in_ok-arguments-in-Call.ensures c.call.ensures

pub evaluate-returns-in-List : goal.evaluate-returns-in-List
evaluate-returns-in-List t c = array_fails (fortran77 c.args.self.now.width) (store_of c.args.self.now) c.args.expr.now c.in-List.is

pub evaluate-returns-in-List-2 : goal.evaluate-returns-in-List-2
evaluate-returns-in-List-2 t c = array_fails (fortran77 c.args.self.now.width) (store_of c.args.self.now) c.args.expr.now c.in-List.is

pub evaluate-returns-in-List-3 : goal.evaluate-returns-in-List-3
evaluate-returns-in-List-3 t c = array_fails (fortran77 c.args.self.now.width) (store_of c.args.self.now) c.args.expr.now c.in-List.is

pub evaluate-returns-in-Reshape : goal.evaluate-returns-in-Reshape
evaluate-returns-in-Reshape t c = whole_fails (fortran77 c.args.self.now.width) (store_of c.args.self.now) c.args.expr.now refl c.in-Reshape.is

pub evaluate-returns-in-Reshape-2 : goal.evaluate-returns-in-Reshape-2
evaluate-returns-in-Reshape-2 t c = whole_fails (fortran77 c.args.self.now.width) (store_of c.args.self.now) c.args.expr.now refl c.in-Reshape.is

pub evaluate_item-returns : goal.evaluate_item-returns
evaluate_item-returns t c =
    c.scalar.ensures ∙ ap (given c.in_ok-fault.fault c.is_empty.result) c.value.ensures
    ∙ ap (λ f. given f c.is_empty.result (value_in c.args.self.now c.args.item.now.name)) c.in_ok-fault.ensures
    ∙ sym (value-item c.args.self.now.width c.args.self.now c.args.item.now c.is_empty.result c.is_empty.ensures)

pub evaluate_all-loop-expr-preserved : goal.evaluate_all-loop-expr-preserved
evaluate_all-loop-expr-preserved t c =
    values_more c.args.self.now.width (store_of c.args.self.now) _ c.as_slice-expr-items.result.now c.loop-expr.expr-index c.expr-item.result c.loop-expr.values c.push.new.self c.in-Ok.value
    c.loop-expr.invariant c.loop-expr-test.true c.expr-item.is (sym c.in-Ok.is ∙ c.in_ok-value.ensures) c.in_ok-push-in-Ok.ensures.ok

pub fault_in_sub-returns-in_ok-value-in-One : goal.fault_in_sub-returns-in_ok-value-in-One
fault_in_sub-returns-in_ok-value-in-One t c =
    one_found (fortran77 c.args.self.now.width) (store_of c.args.self.now) c.args.sub.now c.in-One.expr c.in_ok-value-in-One.value c.number.result c.fault.result
    c.in-One.is c.in_ok-value-in-One.ensures c.number.ensures c.fault.ensures

pub fault_in_sub-returns-in-Part : goal.fault_in_sub-returns-in-Part
fault_in_sub-returns-in-Part t c =
    part_fails (fortran77 c.args.self.now.width) (store_of c.args.self.now) c.args.sub.now c.in-Part.field-0 c.in-Part.field-1 c.in-Part.field-2 c.in-Part.is

pub fault_in_subs-loop-sub-preserved : goal.fault_in_subs-loop-sub-preserved
fault_in_subs-loop-sub-preserved t c =
    faults_more c.args.self.now.width (store_of c.args.self.now) _ c.in_ok-fault.fault c.as_slice-sub-items.result.now c.loop-sub.sub-index c.sub-item.result
    c.loop-sub.invariant c.loop-sub-test.true c.sub-item.is c.in_ok-fault.ensures c.if-is_some.ensures
