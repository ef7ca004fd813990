use Rattle.tree.specs.View.{expression_of, reference_of}
use Rattle.meaning.specs.Dialect.{fortran90}
use Rattle.meaning.specs.Run.{array_assigns}
use Rattle.machine.proofs.Residuals.{residual}
use Rattle.machine.proofs.ActLaws.{Runs-counts_step, Runs-cut}
use Rattle.array_expressions.specs.assignments.Causes.{outcome}
use Rattle.array_expressions.specs.assignments.Moments.{seen}
use Rattle.array_expressions.proofs.assignments.moment.Moment.masked_assignment.Goals as goal

pub returns-in_err-count_step : goal.returns-in_err-count_step
returns-in_err-count_step c = λ mark input bytes.
    rw (residual c.from_residual.ensures.1)
    (Runs-cut (fortran90 c.args.width) (λ limit. array_assigns (fortran90 c.args.width) limit c.args.line (expression_of c.args.mask.now) (reference_of c.args.left.now) (expression_of c.args.right.now)) input (seen c.args.self.now) (seen c.count_step.new.self) bytes c.in_err-count_step.field-0.0 c.in_err-count_step.ensures.counted)

pub returns : goal.returns
returns c = λ mark input bytes.
    Runs-counts_step (fortran90 c.args.width) (λ limit. array_assigns (fortran90 c.args.width) limit c.args.line (expression_of c.args.mask.now) (reference_of c.args.left.now) (expression_of c.args.right.now)) input (seen c.args.self.now) (seen c.count_step.new.self) (seen c.assign_array.new.self) bytes bytes
    (outcome c.assign_array.result) c.in_ok-count_step.ensures.counted (c.assign_array.ensures input bytes)
