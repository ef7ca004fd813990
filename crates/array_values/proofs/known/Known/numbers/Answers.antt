use Rattle.std.proofs.Common.{◌≡◌, sym, subst, ◌∙◌, arith, rules, [], pos}
use Rattle.tree.specs.declared.ops.Value.TheVariants.{Int}
use Rattle.tree.specs.Operators.{as_number, as_numbers}
use Rattle.array_values.proofs.Steps.{residual, settled, left_of, left_begun, list_fault, list_more, list_done}
use Rattle.array_values.proofs.Numbers.{numbers_each}
use Rattle.array_values.proofs.known.Known.numbers.Goals as goal

pub loop-value-init : goal.loop-value-init
loop-value-init c =
    subst (λ zs. as_numbers c.args.self.now.values ≡ left_of as_number zs c.as_slice-value-items.result.now) (sym c.new-numbers.ensures)
    (subst (λ vs. as_numbers c.args.self.now.values ≡ left_of as_number [] vs) (sym c.as_slice-value-items.ensures)
    (numbers_each c.args.self.now.values ∙ left_begun as_number c.args.self.now.values))

pub returns-in_err-as_number : goal.returns-in_err-as_number
returns-in_err-as_number c =
    rw (residual c.from_residual.ensures.1)
    (list_fault as_number _ c.loop-value.numbers c.as_slice-value-items.result.now c.loop-value.value-index c.loop-value.invariant
    (Int (pos 0)) c.in_err-as_number.field-0.0 (omega arith) (sym c.in_err-as_number.ensures))

pub loop-value-preserved : goal.loop-value-preserved
loop-value-preserved c =
    let e = list_more as_number _ c.loop-value.numbers c.as_slice-value-items.result.now c.loop-value.value-index c.loop-value.invariant
    (Int (pos 0)) c.in_ok-as_number.field-0 (omega arith) (sym c.in_ok-as_number.ensures) in
    rw c.in_ok-push.ensures.ok (rw (settled c.in_ok-as_number.field-0 (search rules)) e)

pub returns : goal.returns
returns c =
    list_done as_number _ c.loop-value.numbers c.as_slice-value-items.result.now c.loop-value.value-index c.loop-value.invariant (omega arith)
