use Rattle.std.proofs.Common.{◌≡◌, ◌∙◌, ap, sym, map, Some, None, arith, rules}
use Rattle.tree.specs.Plain.{Apply, expressions}
use Rattle.tree.specs.View.{expression_of}
use Rattle.linear_forms.specs.Linear.{constant_value, known}
use Rattle.linear_forms.proofs.ConstantLaws.{call_step_none, call_step, call_end, un_constant, bin_constant}
use Rattle.linear_forms.proofs.constants.+constant.Goals as goal

pub constant_call-returns-in_default : goal.constant_call-returns-in_default
constant_call-returns-in_default t c =
    let none : None ≡ constant_value (expression_of c.expr-item.result) = search rules in
    call_step_none (constant_value (Apply c.args.function (expressions (map expression_of c.args.exprs.now)))) c.args.function c.loop-expr.given c.as_slice-expr-items.result.now c.loop-expr.expr-index
    c.loop-expr.invariant c.expr-item.result (omega arith) c.expr-item.is none

pub constant_call-loop-expr-preserved : goal.constant_call-loop-expr-preserved
constant_call-loop-expr-preserved t c =
    let some : Some c.in-Some.value ≡ constant_value (expression_of c.expr-item.result) = search rules in
    let e = call_step (constant_value (Apply c.args.function (expressions (map expression_of c.args.exprs.now)))) c.args.function c.loop-expr.given c.as_slice-expr-items.result.now c.loop-expr.expr-index
    c.loop-expr.invariant c.expr-item.result c.in-Some.value (omega arith) c.expr-item.is some in
    rw c.with-given.ensures e

pub constant_call-returns : goal.constant_call-returns
constant_call-returns t c =
    let e = call_end (constant_value (Apply c.args.function (expressions (map expression_of c.args.exprs.now)))) c.args.function c.loop-expr.given c.as_slice-expr-items.result.now c.loop-expr.expr-index
    c.loop-expr.invariant (omega arith) in
    c.known.ensures ∙ (ap known c.call.ensures.value ∙ e)

pub constant_value-returns-in-Some : goal.constant_value-returns-in-Some
constant_value-returns-in-Some t c =
    let some : Some c.in-Some.x ≡ constant_value (expression_of c.in-Un.a.value) = search rules in
    c.known.ensures ∙ (ap known c.apply.ensures.value ∙ sym (ap (λ e. constant_value (expression_of e)) c.in-Un.is ∙ un_constant c.in-Un.op c.in-Un.a c.in-Some.x some))

pub constant_value-returns-in-Some-constant_value-2 : goal.constant_value-returns-in-Some-constant_value-2
constant_value-returns-in-Some-constant_value-2 t c =
    let first : Some c.in-Some-constant_value.x ≡ constant_value (expression_of c.in-Bin.a.value) = search rules in
    let second : Some c.in-Some-constant_value-2.y ≡ constant_value (expression_of c.in-Bin.b.value) = search rules in
    c.known-in-Bin.ensures ∙ (ap known c.apply-in-Bin.ensures.value
    ∙ sym (ap (λ e. constant_value (expression_of e)) c.in-Bin.is ∙ bin_constant c.in-Bin.op c.in-Bin.a c.in-Bin.b c.in-Some-constant_value.x c.in-Some-constant_value-2.y first second))
