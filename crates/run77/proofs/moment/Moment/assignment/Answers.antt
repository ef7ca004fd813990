use Rattle.meaning.specs.Dialect.{fortran77}
use Rattle.machine.proofs.Residuals.{residual}
use Rattle.machine.proofs.ActLaws.{Runs-counts_step, Runs-cut}
use Rattle.run77.specs.Moments.{seen}
use Rattle.run77.proofs.moment.Moment.assignment.Goals as goal

pub returns-in_err-count_step : goal.returns-in_err-count_step
returns-in_err-count_step c = λ input bytes.
    rw (residual c.from_residual.ensures.1)
    (Runs-cut (fortran77 c.args.width) _ input (seen c.args.self.now) (seen c.count_step.new.self) bytes c.in_err-count_step.field-0.0 c.in_err-count_step.ensures.counted)

pub returns : goal.returns
returns c = λ input bytes. Runs-counts_step (fortran77 c.args.width) _ input (seen c.args.self.now) (seen c.count_step.new.self) _ bytes bytes _ c.in_ok-count_step.ensures.counted (c.assign.ensures input bytes)
