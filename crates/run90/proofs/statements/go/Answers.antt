use Rattle.meaning.specs.Dialect.{fortran90}
use Rattle.machine.specs.declared.progress.Halt.TheVariants.{Jump}
use Rattle.machine.proofs.Residuals.{residual}
use Rattle.machine.proofs.ActLaws.{Runs-counts_step, Runs-cut, Runs-goes}
use Rattle.array_expressions.specs.assignments.Moments.{seen}
use Rattle.run90.proofs.statements.go.Goals as goal

pub returns-in_err-count_step : goal.returns-in_err-count_step
returns-in_err-count_step c = λ w input bytes.
    rw (residual c.from_residual.ensures.1)
    (Runs-cut (fortran90 w) _ input (seen c.args.moment.now) (seen c.count_step.new.self) bytes c.in_err-count_step.field-0.0 c.in_err-count_step.ensures.counted)

pub returns : goal.returns
returns c = λ w input bytes. Runs-counts_step (fortran90 w) _ input (seen c.args.moment.now) (seen c.count_step.new.self) _ bytes bytes _ c.in_ok-count_step.ensures.counted (Runs-goes input (seen c.count_step.new.self) bytes (Jump c.args.label))
