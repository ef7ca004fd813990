use Rattle.meaning.specs.Dialect.{fortran90}
use Rattle.machine.specs.Printing.{plain_items}
use Rattle.machine.specs.Statements.{reads}
use Rattle.array_expressions.specs.assignments.Causes.{outcome}
use Rattle.machine.proofs.Residuals.{residual}
use Rattle.machine.proofs.ActLaws.{Runs-counts_step, Runs-cut}
use Rattle.array_expressions.specs.assignments.Moments.{seen}
use Rattle.array_expressions.proofs.transfers.reading.read_statement.Goals as goal

pub returns-in_err-count_step : goal.returns-in_err-count_step
returns-in_err-count_step c = λ bytes.
    rw (residual c.from_residual.ensures.1)
    (Runs-cut (fortran90 c.args.width) (λ limit. reads (fortran90 c.args.width) limit c.args.line (plain_items c.args.items.now)) c.args.input.now (seen c.args.moment.now) (seen c.count_step.new.self) bytes c.in_err-count_step.field-0.0 c.in_err-count_step.ensures.counted)

pub returns : goal.returns
returns c = λ bytes. Runs-counts_step (fortran90 c.args.width) (λ limit. reads (fortran90 c.args.width) limit c.args.line (plain_items c.args.items.now)) c.args.input.now (seen c.args.moment.now) (seen c.count_step.new.self) (seen c.read.new.moment) bytes bytes (outcome c.read.result) c.in_ok-count_step.ensures.counted (c.read.ensures bytes)
