use Rattle.std.proofs.Common.{sym, ap, ◌∙◌, Bool}
use Rattle.tree.specs.Operators.{as_truth}
use Rattle.tree.specs.Steps.{◌>>=◌}
use Rattle.tree.specs.View.{expression_of}
use Rattle.tree.specs.declared.ops.Value.{Value}
use Rattle.meaning.specs.Dialect.{fortran90}
use Rattle.meaning.specs.Value.{value_of}
use Rattle.machine.specs.Moments.{located}
use Rattle.machine.proofs.Residuals.{residual}
use Rattle.array_values.specs.storage.Stored.{store_in}
use Rattle.array_expressions.proofs.assignments.Lacking.{asked_of}
use Rattle.run90.proofs.Going.{first_stuck, located_ok}
use Rattle.run90.proofs.statements.truth.Goals as goal

pub returns-in_err-value : goal.returns-in_err-value
returns-in_err-value c =
    let e = expression_of c.args.test.now in
    rw (residual c.from_residual.ensures.1)
    (first_stuck c.args.line (λ (v : Value). v) (λ (b : Bool). b) (value_of (fortran90 c.args.width) e (store_in c.args.moment.now.storage)) as_truth c.in_err-value.field-0.0
    (asked_of c.args.line (λ (v : Value). v) (value_of (fortran90 c.args.width) e) c.value.result _ c.scope.result.storage.now c.args.moment.now.storage c.scope.ensures (sym c.in_err-value.was ∙ c.at.ensures) c.value.ensures))

pub returns-in_err-truth : goal.returns-in_err-truth
returns-in_err-truth c =
    let e = expression_of c.args.test.now in
    rw (residual c.from_residual-in_err-truth.ensures.1)
    (sym c.in_err-truth.was ∙ c.at-2.ensures ∙ ap (located c.args.line) (c.as_truth.ensures
    ∙ sym (ap (λ q. q >>= as_truth) (asked_of c.args.line (λ (v : Value). v) (value_of (fortran90 c.args.width) e) c.value.result _ c.scope.result.storage.now c.args.moment.now.storage c.scope.ensures (sym c.in_ok-value.was ∙ c.at.ensures) c.value.ensures))))

pub returns : goal.returns
returns c =
    let e = expression_of c.args.test.now in
    ap (λ q. q >>= as_truth) (asked_of c.args.line (λ (v : Value). v) (value_of (fortran90 c.args.width) e) c.value.result _ c.scope.result.storage.now c.args.moment.now.storage c.scope.ensures (sym c.in_ok-value.was ∙ c.at.ensures) c.value.ensures)
    ∙ sym c.as_truth.ensures ∙ located_ok c.args.line c.as_truth.result c.in_ok-truth.truth (sym c.in_ok-truth.was ∙ c.at-2.ensures)
