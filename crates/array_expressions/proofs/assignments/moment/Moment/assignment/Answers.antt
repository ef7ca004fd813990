use Rattle.std.proofs.Common.{sym, ap, ◌∙◌, subst, true, false}
use Rattle.std.specs.Prelude.{not}
use Rattle.tree.specs.Plain.{Logic}
use Rattle.tree.specs.View.{expression_of, reference_of}
use Rattle.tree.proofs.Equations.{expression_of-truth}
use Rattle.meaning.specs.Dialect.{fortran90}
use Rattle.meaning.specs.Value.{named, is_array}
use Rattle.meaning.specs.Run.{either, array_assigns, assigns}
use Rattle.machine.specs.Acts.{LimitedAct, Runs}
use Rattle.machine.proofs.Residuals.{residual}
use Rattle.machine.proofs.ActLaws.{Runs-counts_step, Runs-cut}
use Rattle.array_values.specs.storage.Stored.{store_in}
use Rattle.array_expressions.specs.Scopes.{is_scalar_reference}
use Rattle.array_expressions.specs.assignments.Causes.{outcome}
use Rattle.array_expressions.specs.assignments.Moments.{seen}
use Rattle.array_expressions.proofs.assignments.Lacking.{Runs-array}
use Rattle.array_expressions.proofs.assignments.moment.Moment.assignment.Goals as goal

pub returns-in_err-count_step : goal.returns-in_err-count_step
returns-in_err-count_step c = λ mark input bytes.
    rw (residual c.from_residual.ensures.1)
    (Runs-cut (fortran90 c.args.width) _ input (seen c.args.self.now) (seen c.count_step.new.self) bytes c.in_err-count_step.field-0.0 c.in_err-count_step.ensures.counted)

pub returns-then-is_scalar_item : goal.returns-then-is_scalar_item
returns-then-is_scalar_item c = λ mark input bytes.
    let line = c.args.line in
    let left = reference_of c.args.left.now in
    let right = expression_of c.args.right.now in
    let whole : LimitedAct = λ limit. array_assigns (fortran90 c.args.width) limit line (Logic true) left right in
    let one : LimitedAct = λ limit. assigns (fortran90 c.args.width) limit line left right in
    Runs-counts_step (fortran90 c.args.width) (λ limit s. either (is_array (fortran90 c.args.width) (named left) s.store) (whole limit) (one limit) s) input (seen c.args.self.now) (seen c.count_step.new.self) (seen c.assign.new.self) bytes bytes
    (outcome c.assign.result) c.in_ok-count_step.ensures.counted
    (Runs-array (fortran90 c.args.width) (named left) whole one input (seen c.count_step.new.self) (seen c.assign.new.self) bytes bytes (outcome c.assign.result) false
    (ap not (ap (λ st. is_scalar_reference left (store_in st).bounds) (sym c.scope.ensures) ∙ sym c.is_scalar_item.ensures ∙ c.if-is_scalar_item.true))
    (c.assign.ensures input bytes))

pub returns : goal.returns
returns c = λ mark input bytes.
    let line = c.args.line in
    let left = reference_of c.args.left.now in
    let right = expression_of c.args.right.now in
    let whole : LimitedAct = λ limit. array_assigns (fortran90 c.args.width) limit line (Logic true) left right in
    let one : LimitedAct = λ limit. assigns (fortran90 c.args.width) limit line left right in
    Runs-counts_step (fortran90 c.args.width) (λ limit s. either (is_array (fortran90 c.args.width) (named left) s.store) (whole limit) (one limit) s) input (seen c.args.self.now) (seen c.count_step.new.self) (seen c.assign_array.new.self) bytes bytes
    (outcome c.assign_array.result) c.in_ok-count_step.ensures.counted
    (Runs-array (fortran90 c.args.width) (named left) whole one input (seen c.count_step.new.self) (seen c.assign_array.new.self) bytes bytes (outcome c.assign_array.result) true
    (ap not (ap (λ st. is_scalar_reference left (store_in st).bounds) (sym c.scope.ensures) ∙ sym c.is_scalar_item.ensures ∙ c.if-is_scalar_item.false))
    (subst (λ m. Runs (λ limit. array_assigns (fortran90 c.args.width) limit line m left right) input (seen c.count_step.new.self) bytes (seen c.assign_array.new.self) bytes (outcome c.assign_array.result)) (expression_of-truth true) (c.assign_array.ensures input bytes)))
