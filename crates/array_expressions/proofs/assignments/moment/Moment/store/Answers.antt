use Rattle.std.proofs.Common.{sym, ap, ◌∙◌}
use Rattle.meaning.specs.Dialect.{fortran90}
use Rattle.meaning.specs.Run.{counts_step, stores}
use Rattle.machine.specs.Moments.{located}
use Rattle.machine.specs.Acts.{left_of}
use Rattle.machine.proofs.Residuals.{residual}
use Rattle.machine.proofs.ActLaws.{Runs-in_range, Runs-out_of_range}
use Rattle.array_expressions.specs.assignments.Moments.{seen, slots_of}
use Rattle.array_expressions.proofs.assignments.Storing.{same_places}
use Rattle.array_expressions.proofs.assignments.moment.Moment.store.Goals as goal

pub returns-in_err-at-clause-stored : goal.returns-in_err-at-clause-stored
returns-in_err-at-clause-stored c = λ cell p input bytes.
    rw (residual c.from_residual.ensures.1)
    (Runs-out_of_range (fortran90 c.args.width) c.args.line c.args.value c.in_err-at.field-0.0 (λ limit. counts_step (fortran90 c.args.width) limit (stores cell c.args.value))
    input (seen c.args.self.now) bytes
    (sym c.in_err-at.was ∙ c.at.ensures ∙ ap (located c.args.line) c.check_range.ensures))

pub returns-in_err-at-clause-kept : goal.returns-in_err-at-clause-kept
returns-in_err-at-clause-kept c = same_places (slots_of c.args.self.now)

pub returns-clause-stored : goal.returns-clause-stored
returns-clause-stored c = λ cell p input bytes.
    Runs-in_range (fortran90 c.args.width) c.args.line c.args.value (λ limit. counts_step (fortran90 c.args.width) limit (stores cell c.args.value)) input
    (seen c.args.self.now) (seen c.put.new.self) bytes bytes (left_of c.put.result) _
    (sym c.in_ok-at.was ∙ c.at.ensures ∙ ap (located c.args.line) c.check_range.ensures)
    (c.put.ensures.stored c.args.width cell p input bytes)
