use Rattle.std.proofs.Common.{◌≡◌, ap, sym, subst, ◌∙◌, map, arith}
use Rattle.std.proofs.lemmas.List.{append-nil}
use Rattle.meaning.specs.ArrayValues.{Elements, settled}
use Rattle.tree.specs.declared.ops.Value.{Value}
use Rattle.array_values.specs.declared.prepared.Prepared.{Prepared}
use Rattle.array_values.specs.Arrays.{array_in, elements_in, called_at}
use Rattle.tree.specs.declared.arguments.Arguments.TheVariants.{Empty}
use Rattle.array_values.proofs.Steps.{residual}
use Rattle.array_values.proofs.Equations.{known_is, call_is}
use Rattle.array_values.proofs.Calls.{left_to_call, call_begun, call_step_fault, call_step, call_end}
use Rattle.array_values.proofs.prepared.+at.Goals as goal

pub Prepared::at-returns-in-Known : goal.Prepared::at-returns-in-Known
Prepared::at-returns-in-Known t c =
    c.at.ensures
    ∙ ap (settled (array_in c.in-Known.array)).at (append-nil c.args.position.now)
    ∙ sym (ap (λ (p : Prepared). (elements_in p).at c.args.position.now) c.in-Known.is
    ∙ ap (λ (g : Elements Value). g.at c.args.position.now) (known_is c.in-Known.array))

pub Prepared::at-returns-in-Call : goal.Prepared::at-returns-in-Call
Prepared::at-returns-in-Call t c =
    c.call_at.ensures
    ∙ sym (ap (λ (p : Prepared). (elements_in p).at c.args.position.now) c.in-Call.is
    ∙ ap (λ (g : Elements Value). g.at c.args.position.now) (call_is c.in-Call.function c.in-Call.parts))

pub call_at-loop-part-init : goal.call_at-loop-part-init
call_at-loop-part-init t c =
    subst (λ ps. called_at c.args.function (map elements_in c.args.parts.now) c.args.position.now ≡ left_to_call c.args.function Empty ps c.args.position.now)
    (sym c.as_slice-part-items.ensures) (call_begun c.args.function c.args.parts.now c.args.position.now)

pub call_at-returns-in_err-at : goal.call_at-returns-in_err-at
call_at-returns-in_err-at t c =
    residual c.from_residual.ensures.1
    ∙ call_step_fault _ c.args.function c.loop-part.arguments c.as_slice-part-items.result.now c.loop-part.part-index c.args.position.now
    c.loop-part.invariant c.part-item.result c.in_err-at.field-0.0 (omega arith) c.part-item.is c.in_err-at.ensures

pub call_at-loop-part-preserved : goal.call_at-loop-part-preserved
call_at-loop-part-preserved t c =
    let e = call_step _ c.args.function c.loop-part.arguments c.as_slice-part-items.result.now c.loop-part.part-index c.args.position.now
    c.loop-part.invariant c.part-item.result c.in_ok-at.field-0 (omega arith) c.part-item.is c.in_ok-at.ensures in
    rw c.with-arguments.ensures e

pub call_at-returns : goal.call_at-returns
call_at-returns t c =
    c.call.ensures.value
    ∙ call_end _ c.args.function c.loop-part.arguments c.as_slice-part-items.result.now c.loop-part.part-index c.args.position.now
    c.loop-part.invariant (omega arith)
