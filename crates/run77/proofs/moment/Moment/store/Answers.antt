use Rattle.std.proofs.Common.{refl, sym, ap, ◌∙◌, Ok, Err}
use Rattle.meaning.specs.Dialect.{fortran77}
use Rattle.meaning.specs.Run.{counts_step, stores}
use Rattle.machine.specs.declared.progress.Left.TheVariants.{Halted}
use Rattle.machine.specs.declared.storage.Storage.{Storage}
use Rattle.machine.specs.Moments.{located}
use Rattle.machine.specs.Stored.{names_in}
use Rattle.machine.specs.Storage.{place}
use Rattle.machine.proofs.Residuals.{residual}
use Rattle.machine.proofs.ActLaws.{Runs-counts_step, Runs-cut, Runs-in_range, Runs-out_of_range, Runs-stores}
use Rattle.run77.specs.Moments.{seen}
use Rattle.run77.proofs.moment.Moment.store.Goals as goal

pub returns-in_err-at-clause-stored : goal.returns-in_err-at-clause-stored
returns-in_err-at-clause-stored c = λ cell p input bytes.
    rw (residual c.from_residual.ensures.1)
    (Runs-out_of_range (fortran77 c.args.width) c.args.line c.args.value c.in_err-at.field-0.0 (λ limit. counts_step (fortran77 c.args.width) limit (stores cell c.args.value))
    input (seen c.args.self.now) bytes
    (sym c.in_err-at.was ∙ c.at.ensures ∙ ap (located c.args.line) c.check_range.ensures))

pub returns-in_err-count_step-clause-stored : goal.returns-in_err-count_step-clause-stored
returns-in_err-count_step-clause-stored c = λ cell p input bytes.
    rw (residual c.from_residual-in_err-count_step.ensures.1)
    (Runs-in_range (fortran77 c.args.width) c.args.line c.args.value (λ limit. counts_step (fortran77 c.args.width) limit (stores cell c.args.value)) input
    (seen c.args.self.now) (seen c.count_step.new.self) bytes bytes (Err (Halted c.in_err-count_step.field-0.0)) _
    (sym c.in_ok-at.was ∙ c.at.ensures ∙ ap (located c.args.line) c.check_range.ensures)
    (Runs-cut (fortran77 c.args.width) (λ limit. stores cell c.args.value) input (seen c.args.self.now) (seen c.count_step.new.self) bytes
    c.in_err-count_step.field-0.0 c.in_err-count_step.ensures.counted))

pub put-requires : goal.put-requires
put-requires c = rw c.count_step.ensures.storage c.requires

pub returns-clause-stored : goal.returns-clause-stored
returns-clause-stored c = λ cell p input bytes.
    Runs-in_range (fortran77 c.args.width) c.args.line c.args.value (λ limit. counts_step (fortran77 c.args.width) limit (stores cell c.args.value)) input
    (seen c.args.self.now) _ bytes bytes (Ok tt) _
    (sym c.in_ok-at.was ∙ c.at.ensures ∙ ap (located c.args.line) c.check_range.ensures)
    (Runs-counts_step (fortran77 c.args.width) (λ limit. stores cell c.args.value) input (seen c.args.self.now) (seen c.count_step.new.self) _ bytes bytes
    (Ok tt) c.in_ok-count_step.ensures.counted
    (Runs-stores cell c.args.value input (seen c.count_step.new.self) _ bytes c.put.ensures.names
    (c.put.ensures.stored cell (ap (λ (s : Storage). place (names_in s) cell.name cell.subscripts) c.count_step.ensures.storage ∙ p)) refl))

pub returns-clause-names : goal.returns-clause-names
returns-clause-names c = c.put.ensures.names ∙ ap names_in c.count_step.ensures.storage
