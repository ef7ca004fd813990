use Rattle.std.proofs.Common.{refl, sym, ap, ◌∙◌, subst, Ok}
use Rattle.meaning.specs.Dialect.{fortran90}
use Rattle.meaning.specs.Run.{stores}
use Rattle.machine.proofs.Residuals.{residual}
use Rattle.machine.proofs.ActLaws.{Runs-counts_step, Runs-cut, Runs-stores}
use Rattle.array_values.specs.declared.storage.storage.Storage.{Storage}
use Rattle.array_values.specs.storage.Slots.{SamePlaces, place_among}
use Rattle.array_values.specs.storage.Stored.{slots_in}
use Rattle.array_expressions.specs.assignments.Moments.{seen, slots_of}
use Rattle.array_expressions.proofs.assignments.Storing.{same_places}
use Rattle.array_expressions.proofs.assignments.moment.Moment.put.Goals as goal

pub returns-in_err-count_step-clause-stored : goal.returns-in_err-count_step-clause-stored
returns-in_err-count_step-clause-stored c = λ w cell p input bytes.
    rw (residual c.from_residual.ensures.1)
    (Runs-cut (fortran90 w) (λ limit. stores cell c.args.value) input (seen c.args.self.now) (seen c.count_step.new.self) bytes
    c.in_err-count_step.field-0.0 c.in_err-count_step.ensures.counted)

pub returns-in_err-count_step-clause-kept : goal.returns-in_err-count_step-clause-kept
returns-in_err-count_step-clause-kept c = subst (λ (s : Storage). SamePlaces (slots_of c.args.self.now) (slots_in s)) (sym c.count_step.ensures.storage) (same_places (slots_of c.args.self.now))

pub put-requires : goal.put-requires
put-requires c = rw c.count_step.ensures.storage c.requires

pub returns-clause-stored : goal.returns-clause-stored
returns-clause-stored c = λ w cell p input bytes.
    Runs-counts_step (fortran90 w) (λ limit. stores cell c.args.value) input (seen c.args.self.now) (seen c.count_step.new.self) _ bytes bytes
    (Ok tt) c.in_ok-count_step.ensures.counted
    (Runs-stores cell c.args.value input (seen c.count_step.new.self) _ bytes refl
    (c.put.ensures.stored cell (ap (λ (s : Storage). place_among (slots_in s) cell.name cell.subscripts) c.count_step.ensures.storage ∙ p)) refl)

pub returns-clause-kept : goal.returns-clause-kept
returns-clause-kept c = subst (λ (s : Storage). SamePlaces (slots_in s) (slots_in c.put.new.self)) c.count_step.ensures.storage c.put.ensures.kept
