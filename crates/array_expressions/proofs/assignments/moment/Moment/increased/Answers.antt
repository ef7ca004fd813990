use Rattle.std.proofs.Common.{sym, ap, ◌∙◌, ◌+ℤ◌, to_z, of_z, rules}
use Rattle.std.specs.Int.{w128}
use Rattle.meaning.specs.Value.{exact}
use Rattle.machine.proofs.Residuals.{residual, settled}
use Rattle.array_expressions.specs.assignments.Moments.{slots_of}
use Rattle.array_expressions.proofs.assignments.Cells.{increased_fault, increased_is, held_is}
use Rattle.array_expressions.proofs.assignments.moment.Moment.increased.Goals as goal

pub returns-in_err-as_number : goal.returns-in_err-as_number
returns-in_err-as_number c = λ cell p.
    residual c.from_residual.ensures.1
    ∙ sym (increased_fault _ c.value.result c.args.step c.in_err-as_number.field-0.0 (sym (held_is (slots_of c.args.self.now) cell c.value.result (c.value.ensures cell.name cell.subscripts p))) (sym c.as_number.ensures ∙ c.in_err-as_number.was))

pub returns : goal.returns
returns c = λ cell p.
    c.add.ensures
    ∙ ap (λ z. exact (z +ℤ to_z w128 (of_z w128 c.args.step))) (settled c.in_ok-as_number.field-0 (search rules))
    ∙ ap (λ z. exact (c.in_ok-as_number.field-0 +ℤ z)) (settled c.args.step (search rules))
    ∙ sym (increased_is _ c.value.result c.args.step c.in_ok-as_number.field-0 (sym (held_is (slots_of c.args.self.now) cell c.value.result (c.value.ensures cell.name cell.subscripts p))) (sym c.as_number.ensures ∙ c.in_ok-as_number.was))
