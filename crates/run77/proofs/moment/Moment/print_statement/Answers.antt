use Rattle.std.proofs.Common.{Some}
use Rattle.meaning.specs.Dialect.{fortran77}
use Rattle.machine.proofs.Residuals.{residual}
use Rattle.machine.proofs.ActLaws.{Runs-counts_step, Runs-cut}
use Rattle.run77.specs.Moments.{seen}
use Rattle.machine.proofs.Telling.{still, kept}
use Rattle.run77.proofs.moment.Moment.print_statement.Goals as goal

pub returns-in_err-count_step-clause-run : goal.returns-in_err-count_step-clause-run
returns-in_err-count_step-clause-run g c = λ input.
    rw (residual c.from_residual.ensures.1)
    (Runs-cut (fortran77 c.args.width) _ input (seen c.args.self.now) (seen c.count_step.new.self) (g.K.Sink.taken c.args.out.now) c.in_err-count_step.field-0.0 c.in_err-count_step.ensures.counted)

pub returns-clause-run : goal.returns-clause-run
returns-clause-run g c = λ input.
    Runs-counts_step (fortran77 c.args.width) _ input (seen c.args.self.now) (seen c.count_step.new.self) (seen c.print.new.self) (g.K.Sink.taken c.args.out.now) (g.K.Sink.taken c.print.new.out) c.print.result c.in_ok-count_step.ensures.counted (c.print.ensures.run input)

pub returns-in_err-count_step-clause-told : goal.returns-in_err-count_step-clause-told
returns-in_err-count_step-clause-told g c = λ input bytes.
    still _ bytes
    (rw (residual c.from_residual.ensures.1)
    (Runs-cut (fortran77 c.args.width) _ input (seen c.args.self.now) (seen c.count_step.new.self) (Some bytes) c.in_err-count_step.field-0.0 c.in_err-count_step.ensures.counted))

pub returns-clause-told : goal.returns-clause-told
returns-clause-told g c = λ input bytes.
    let k = c.print.ensures.told input bytes in
    kept k
    (Runs-counts_step (fortran77 c.args.width) _ input (seen c.args.self.now) (seen c.count_step.new.self) (seen c.print.new.self) (Some bytes) (Some k.after) c.print.result c.in_ok-count_step.ensures.counted k.does)
